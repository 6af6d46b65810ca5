use Rattle.xfl.proofs.OneCut.{each_has_cut, has_one_cut}
use Rattle.xfl.proofs.laws.one_cut.Goals as goal

pub returns-clause-some : goal.returns-clause-some
returns-clause-some c = each_has_cut

pub returns-clause-only : goal.returns-clause-only
returns-clause-only c = has_one_cut
