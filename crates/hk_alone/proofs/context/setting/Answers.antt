use Rattle.std.proofs.Common.{◌≡◌, ◌∙◌, ap, sym}
use Rattle.hk_reading.specs.Reading.{reading}
use Rattle.hk_alone.proofs.Blob.{blob_reads, same_setting}
use Rattle.hk_alone.specs.Context as context
use Rattle.hk_alone.proofs.context.setting.Goals as goal

pub unreachable-requires : goal.unreachable-requires
unreachable-requires c =
    c.in_default.not-Transaction context.invoke
    (c.in_ok-transaction.ensures.reading ∙ ap reading c.invoke.ensures.bytes ∙ blob_reads)

pub returns : goal.returns
returns c = record {
  setting =
      same_setting c.in-Transaction.transaction c.header.result
      (sym c.in-Transaction.is ∙ c.in_ok-transaction.ensures.reading ∙ ap reading c.invoke.ensures.bytes ∙ blob_reads)
      c.header.ensures.header;
}
