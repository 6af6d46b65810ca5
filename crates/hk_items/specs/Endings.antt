-- What an answer to a change of hooks means. This project's own.
use Rattle.std.specs.Prelude.{◌≡◌, List, [], Option, Some, None}
use Rattle.std.specs.Option.{unwrap_or}
use Rattle.hk_base.specs.declared.ids.Hash256.{Hash256}
use Rattle.xo_object.specs.declared.transaction.Grant.{Grant}
use Rattle.xo_object.specs.declared.transaction.Parameter.{Parameter}
use Rattle.hk_reading.specs.declared.reading.Reading.TheVariants as reading
use Rattle.hk_emit.specs.declared.emission.Emission.{Emission}
use Rattle.hk_state.specs.declared.entry.Entry.{Entry}
use Rattle.hk_state.specs.declared.entry.Entry.TheVariants as entry
use Rattle.hk_state.specs.declared.transactor.Done.{Done}
use Rattle.hk_state.specs.declared.transactor.Done.TheVariants.{Kept, Failed}
use Rattle.hk_state.specs.Entries.{Entries}
use Rattle.hk_state.specs.Reserves.{reserve}
use Rattle.hk_state.specs.Rules.{keeps}
use Rattle.hk_state.specs.Writes.{Writes}
use Rattle.hk_draft.specs.Draft.{Draft}
use Rattle.hk_draft.specs.Drafted.{draft_of}
use Rattle.hk_draft.specs.Ends.{kept}
use Rattle.hk_events.specs.Engine.{Engine}
use Rattle.hk_events.specs.Items.{ItemEnd, leaves, stops}
use Rattle.hk_items.specs.Checks.{checked_in}

-- over entries and with the emissions so far: the kept writes make the draft that the items leave, or both stop alike
abbrev pub Means : Entries → List Emission → Done → ItemEnd → Type 0
Means m es (Kept w) (leaves d) = draft_of m w es ≡ d
Means m es (Failed name) (stops other) = name ≡ other
Means m es done end = ⊥

-- whatever was emitted, the answer means what the overlay's draft comes to
abbrev pub Performs : Entries → Writes → Done → (Draft → ItemEnd) → Type 0
Performs m w done ends = (es : List Emission) → Means m es done (ends (draft_of m w es))

-- an overlay's draft becomes another overlay's
abbrev pub Becomes : Entries → Writes → Writes → (Draft → Draft) → Type 0
Becomes m w after change = (es : List Emission) → draft_of m after es ≡ change (draft_of m w es)

-- the check and the reserve of the program, beside parts that no item asks for
abbrev pub plain : Engine
plain = record {
  reads = λ bytes. reading.Unparsed;
  reads_emitted = λ bytes. reading.Unparsed;
  needed_fee = λ m t. 0;
  reserve = reserve;
  checks = checked_in;
  rules = λ header m t. keeps m;
  chain = λ header next before t account d. kept d [];
  callback = λ header next before t account hash argument d. kept d [];
}

-- a hook with what is given in place of what it has, and none of another entry
abbrev pub changed : Option Hash256 → Option Hash256 → Option (List Parameter) → Option (List Grant) → Option Entry →
    Option Entry
changed on namespace parameters grants (Some (entry.Install hash was_on was_namespace was_parameters was_grants)) =
    Some (entry.Install hash (unwrap_or on was_on) (unwrap_or namespace was_namespace)
    (unwrap_or parameters was_parameters) (unwrap_or grants was_grants))
changed on namespace parameters grants other = None
