-- The modules that texts mean fit, so that their bytes spell them (this project's own).
use Rattle.std.specs.Prelude.{◌≡◌, ℕ, ◌≤◌, List, length}
use Rattle.wa_ops.specs.declared.modules.Module.{Module}
use Rattle.wa_decode.specs.Modules.{Spells}
use Rattle.wa_encode.specs.Fitting.{Fits}
use Rattle.wa_encode.specs.Modules.{encoded}
use Rattle.wa_text.specs.Meaning.{means, meaning}

-- the module that a text of at most 1,048,576 bytes means fits
abbrev pub AssembledFits : Type 0
AssembledFits = (text : List ℕ) (m : Module) → length text ≤ 1048576 → meaning text ≡ means m → Fits m

-- its bytes spell it, so that they decode to it alone
abbrev pub AssembledSpells : Type 0
AssembledSpells = (text : List ℕ) (m : Module) → length text ≤ 1048576 → meaning text ≡ means m → Spells m (encoded m)
