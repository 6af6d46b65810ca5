-- What a transaction that is handed in keeps, by rules with their laws.
use Rattle.std.proofs.Common.{◌≡◌, ◌∙◌, ℕ, ◌+◌, ◌<◌, ◌^◌, List, [], sym, ap, arith, false}
use Rattle.std.proofs.Common.{Option, Some, None}
use Rattle.std.specs.FinMap.{get}
use Rattle.xo_list.specs.Item.{lookup}
use Rattle.xo_object.specs.declared.transaction.Transaction.{Transaction}
use Rattle.xo_object.specs.Names as names
use Rattle.xo_object.specs.Transaction.{EmissionIs}
use Rattle.hk_lines.specs.declared.result_name.ResultName.{ResultName}
use Rattle.hk_lines.specs.declared.verdict.Verdict.{Verdict}
use Rattle.hk_reading.specs.declared.reading.Reading.{Reading}
use Rattle.hk_reading.specs.declared.reading.Reading.TheVariants as readings
use Rattle.hk_reading.specs.Reading.{reading}
use Rattle.hk_state.specs.declared.key.Key.TheVariants as key
use Rattle.hk_reading.specs.Readings.{Reads}
use Rattle.hk_reading.proofs.OneReading.{reads_only_so}
use Rattle.hk_state.specs.Ledger.{LedgerValue}
use Rattle.hk_state.specs.Rules.{Rules}
use Rattle.hk_events.specs.Complete.{IsCareful}
use Rattle.hk_events.specs.Events.{Event, applied, applied_by}
use Rattle.hk_events.specs.Laws.{StaysSo, LimitsStay}
use Rattle.hk_events.specs.Lawful.{IsLawful}
use Rattle.hk_events.specs.Limits.{IsMeasured}
use Rattle.hk_events.specs.Performed.{refused, transaction}
use Rattle.hk_events.specs.Results.{handed}
use Rattle.hk_events.specs.Whole.{sender_of}
use Rattle.hk_events.proofs.Applying.{applied_law, queue_aside}
use Rattle.hk_events.proofs.Queueing.{queue_below}
use Rattle.hk_events.proofs.Staying.{stays_law, within_law}
use Rattle.hk_events.proofs.Taking.{transaction_takes}
use Rattle.hk_api_parts.specs.declared.setting.Setting.{Setting}
use Rattle.hk_chain.specs.Programs.{Kept, AreOf}
use Rattle.hk_engine.specs.Engine.{engine_of}
use Rattle.hk_perform.specs.declared.origin.Origin.TheVariants.{Handed}
use Rattle.hk_perform.specs.declared.performed.Performed as declared
use Rattle.hk_perform.specs.Meets.{IsPerformed, transaction_by}
use Rattle.hk_perform.specs.Needs.{IsReady}
use Rattle.hk_ledger.specs.declared.report.Report.{Report}
use Rattle.hk_ledger.specs.Reports.{HoldsFor, event_of, performed_of}
use Rattle.hk_ledger.specs.World.{IsWhole, most_drops}
use Rattle.hk_ledger.proofs.Defining.{programs_stay, entered_stay}

-- the numbers of a transaction that is sent
sent_numbers : (details : Option (List ℕ)) (sequence generation burden : ℕ) →
    EmissionIs false details sequence generation burden → (sequence < 4294967295) × (burden < 2 ^ 63)
sent_numbers None sequence generation burden is =
    let one = is.3 in (is.1, omega (arith, one))
sent_numbers (Some details) sequence generation burden is = absurd is

-- what perform needs to have of a ledger
pub ready : (ledger : LedgerValue) (opening : ℕ) (setting : Setting) → IsWhole ledger opening →
    setting.header ≡ ledger.header → Reads setting.transaction.blob (readings.Transaction setting.transaction) →
    IsReady ledger setting
ready ledger opening setting whole header read =
    let conserved = whole.conserved in
    let most = whole.most in
    let t = setting.transaction in
    let numbers =
    sent_numbers (lookup names.emit_details read.1.fields) t.sequence t.generation t.burden read.1.is.emission in
    record {
      sum = omega (arith, conserved, most);
      reserves = whole.reserves;
      next = whole.next;
      header = header;
      read = record {
        emitted = false;
        fields = read.1.fields;
        object = read.1.object;
        is = read.1.is;
        short = read.0;
        burden = numbers.1;
        sequence = numbers.0;
      };
    }

-- the answer to a transaction tells of the event
module _ (rules : Rules) (ledger : LedgerValue) (verdict : Verdict) (t : Transaction)
    (read : Reads t.blob (readings.Transaction t)) (answer : declared.Performed)
    (is : IsPerformed ledger.entries (transaction_by rules ledger (Handed verdict) t) answer) where
  said : performed_of ledger.entries answer ≡ transaction_by rules ledger (Handed verdict) t
  said = λ i. record { result = is.result i; fee = is.fee i; draft = is.draft i; records = is.records i }

  pub performs : applied_by ledger (performed_of ledger.entries answer)
      ≡ applied (engine_of rules) ledger verdict t.blob
  performs =
      ap (applied_by ledger)
      (said
      ∙ ap (transaction (engine_of rules) ledger.entries ledger (handed verdict))
      (reads_only_so t.blob (readings.Transaction t) read))

-- one that is refused changes nothing
pub refused_event : (rules : Rules) (ledger : LedgerValue) (verdict : Verdict) (blob : List ℕ) (report : Report)
    (name : ResultName) (read : Reading) → report ≡ record { result = Some name; fee = 0; lines = [] } →
    read ≡ reading blob →
    transaction (engine_of rules) ledger.entries ledger (handed verdict) read ≡ refused ledger.entries name →
    event_of ledger report ≡ applied (engine_of rules) ledger verdict blob
refused_event rules ledger verdict blob report name read is same ends =
    let next : ledger.next ≡ ledger.next + 0 = omega arith in
    let burnt : ledger.burnt ≡ ledger.burnt + 0 = omega arith in
    let stays : event_of ledger (record { result = Some name; fee = 0; lines = [] })
    ≡ applied_by ledger (refused ledger.entries name) =
    (λ i. record {
      ledger = record ledger { next = next i; burnt = burnt i };
      result = Some name;
      fee = 0;
      lines = [];
    }) in
    ap (event_of ledger) is ∙ stays
    ∙ ap (applied_by ledger)
    (sym ends ∙ ap (transaction (engine_of rules) ledger.entries ledger (handed verdict)) same)

-- by rules with their laws
module _ (rules : Rules) (lawful : IsLawful (engine_of rules)) where
  module _ (ledger : LedgerValue) (opening : ℕ) (whole : IsWhole ledger opening) (verdict : Verdict)
      (blob : List ℕ) where
    abbrev event : Event
    event = applied (engine_of rules) ledger verdict blob

    pub applied_holds : HoldsFor blob ledger event
    applied_holds = applied_law (engine_of rules) ledger verdict blob lawful whole.queue

    -- numbers below the next one stay as they are
    low_stays : (n : ℕ) → n < ledger.next →
        get event.ledger.entries (key.Emitted n) ≡ get ledger.entries (key.Emitted n)
    low_stays n low =
        let d = (transaction (engine_of rules) ledger.entries ledger (handed verdict) (reading blob)).draft in
        let takes =
        transaction_takes (engine_of rules) lawful ledger.entries ledger (handed verdict) (reading blob) in
        queue_below ledger.next d.emissions d.entries n low
        ∙ takes.extends.queue n
        ∙ takes.same (key.Emitted n) (queue_aside n (sender_of (reading blob)))

    module _ (careful : IsCareful (engine_of rules)) (measured : IsMeasured (engine_of rules)) where
      stays : StaysSo (engine_of rules) ledger
      stays = stays_law (engine_of rules) ledger lawful careful whole.queue whole.hooks

      limits : LimitsStay (engine_of rules) most_drops ledger
      limits =
          let conserved = whole.conserved in
          let most = whole.most in
          within_law (engine_of rules) most_drops ledger lawful measured whole.queue
          (record { sum = omega (arith, conserved, most); reserves = whole.reserves; next = whole.next })

      pub applied_whole : IsWhole event.ledger opening
      applied_whole = record {
        conserved = applied_holds.sum ∙ whole.conserved;
        most = whole.most;
        reserves = (limits.applied_so verdict blob).reserves;
        next = (limits.applied_so verdict blob).next;
        first = let next = applied_holds.whole.next in let first = whole.first in omega (arith, next, first);
        none = low_stays 0 whole.first ∙ whole.none;
        queue = applied_holds.good;
        hooks = stays.applied_so verdict blob;
      }

    -- numbers of emissions are left, and the burnt fees stay a number
    pub applied_burnt : ledger.burnt + event.fee < 2 ^ 64
    applied_burnt =
        let sum = applied_holds.sum in
        let burnt = applied_holds.whole.burnt in
        let conserved = whole.conserved in
        let most = whole.most in omega (arith, sum, burnt, conserved, most)

    pub applied_programs : (programs : Kept) → AreOf ledger.entries programs →
        AreOf event.ledger.entries programs
    applied_programs programs are =
        programs_stay ledger.entries event.ledger.entries programs
        (entered_stay (engine_of rules) lawful ledger.entries ledger (handed verdict) (reading blob)) are
