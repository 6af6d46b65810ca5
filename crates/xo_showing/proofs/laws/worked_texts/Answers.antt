use Rattle.std.proofs.Common.{refl}
use Rattle.std.specs.Fmt.{digits}
use Rattle.serde_json.proofs.OnLiterals.{serde_json_on_literals}
use Rattle.xo_showing.specs.Name.{name_of}
use Rattle.xo_showing.proofs.laws.worked_texts.Goals as goal

pub returns : goal.returns
unfolding digits serde_json_on_literals name_of
returns c = record { law = record { numbers = refl; payment = refl; kinds = refl } }
