-- `records::carry_out` meets its contract: it goes by what the code makes of the operation's number.
use mathlib.Core.Path.{sym, ap, ◌∙◌}
use Rattle.std.specs.Prelude.{Ok}
use Rattle.records.proofs.Operations.{line-told, image-told, logical-told}
use Rattle.records.proofs.carry_out.Goals as goal

pub returns-in-Ok-Write : goal.returns-in-Ok-Write
returns-in-Ok-Write c =
    let told = sym c.try_from.ensures ∙ c.in-Ok-Write.is ∙ ap Ok c.in-Ok-Write.field-0-is in
    record {
      value = c.write.ensures.value ∙ sym (line-told c.args.image.now c.args.logical.now c.args.r told);
      image_after = c.write.ensures.image_after ∙ sym (image-told c.args.image.now c.args.logical.now c.args.r told);
      logical_after = sym (logical-told c.args.image.now c.args.logical.now c.args.r told);
    }

pub returns-in-Ok-Read : goal.returns-in-Ok-Read
returns-in-Ok-Read c =
    let told = sym c.try_from.ensures ∙ c.in-Ok-Read.is ∙ ap Ok c.in-Ok-Read.field-0-is in
    record {
      value = c.read.ensures ∙ sym (line-told c.args.image.now c.args.logical.now c.args.r told);
      image_after = sym (image-told c.args.image.now c.args.logical.now c.args.r told);
      logical_after = sym (logical-told c.args.image.now c.args.logical.now c.args.r told);
    }

pub returns-in-Ok-Release : goal.returns-in-Ok-Release
returns-in-Ok-Release c =
    let told = sym c.try_from.ensures ∙ c.in-Ok-Release.is ∙ ap Ok c.in-Ok-Release.field-0-is in
    record {
      value = c.release.ensures.value ∙ sym (line-told c.args.image.now c.args.logical.now c.args.r told);
      image_after = c.release.ensures.image_after ∙ sym (image-told c.args.image.now c.args.logical.now c.args.r told);
      logical_after = sym (logical-told c.args.image.now c.args.logical.now c.args.r told);
    }

pub returns-in-Ok-Format : goal.returns-in-Ok-Format
returns-in-Ok-Format c =
    let told = sym c.try_from.ensures ∙ c.in-Ok-Format.is ∙ ap Ok c.in-Ok-Format.field-0-is in
    record {
      value = c.format.ensures.value ∙ sym (line-told c.args.image.now c.args.logical.now c.args.r told);
      image_after = c.format.ensures.image_after ∙ sym (image-told c.args.image.now c.args.logical.now c.args.r told);
      logical_after = c.format.ensures.logical_after ∙ sym (logical-told c.args.image.now c.args.logical.now c.args.r told);
    }

pub returns-in-Err : goal.returns-in-Err
returns-in-Err c =
    let told = sym c.try_from.ensures ∙ c.in-Err.is in
    record {
      value = c.other.ensures ∙ sym (line-told c.args.image.now c.args.logical.now c.args.r told);
      image_after = sym (image-told c.args.image.now c.args.logical.now c.args.r told);
      logical_after = sym (logical-told c.args.image.now c.args.logical.now c.args.r told);
    }
