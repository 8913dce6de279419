pub mod Runs
pub mod Demands
pub mod Properties
pub mod Tables
pub mod Stepwise
pub mod Cuts
