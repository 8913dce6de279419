pub mod OwnKinds
pub mod FirstFault
