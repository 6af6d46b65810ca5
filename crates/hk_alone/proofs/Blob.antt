-- The transaction's bytes read as it.
use Rattle.std.proofs.Common.{◌≡◌, ◌∙◌, ap, ◌<◌, ◌^◌, ℕ, List, length, refl, subst, arith}
use Rattle.xo_list.specs.Value.{HasFields}
use Rattle.hk_reading.specs.declared.reading.Reading.TheVariants as readings
use Rattle.hk_reading.specs.Reading.{reading}
use Rattle.hk_reading.specs.Readings.{Reads}
use Rattle.hk_reading.specs.Laws.{ReadsSo}
use Rattle.hk_reading.specs.Transactions.{transaction_of}
use Rattle.xo_object.specs.declared.transaction.Transaction.{Transaction}
use Rattle.hk_state.specs.declared.ledger.Header.{Header}
use Rattle.hk_api_parts.specs.declared.setting.Setting.{Setting}
use Rattle.hk_alone.specs.Context.{blob, invoke, invoke_bytes, invoke_of, account, setting}

bytes_read : reading invoke_bytes ≡ readings.Transaction (invoke_of invoke_bytes)
unfolding reading transaction_of account
bytes_read = refl

pub blob_reads : reading blob ≡ readings.Transaction invoke
unfolding blob invoke
blob_reads = bytes_read

pub blob_is : invoke.blob ≡ blob
unfolding blob invoke
blob_is = refl

pub small_burden : invoke.burden < 2 ^ 63
unfolding invoke
small_burden = omega arith

pub short_blob : length blob < 2 ^ 32
unfolding blob
short_blob = omega arith

-- they are the fields of an object
pub has_fields : ReadsSo → HasFields blob
has_fields so = let read = subst (Reads blob) blob_reads (so blob) in (read.1.fields, read.1.object)

abbrev with_parts : Transaction → Header → Setting
with_parts t h = record { transaction = t; header = h }

-- a transaction that was read so, and this header
pub same_setting : (t : Transaction) (h : Header) → readings.Transaction t ≡ readings.Transaction invoke →
    h ≡ setting.header → with_parts t h ≡ setting
same_setting t h read header =
    let same : t ≡ invoke = cc in
    ap (λ x. with_parts x h) same ∙ ap (with_parts invoke) header
