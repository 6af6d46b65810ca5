use Rattle.xo_object.proofs.Values.{lookup_fits}
use Rattle.xo_object.proofs.reading.value_at.Goals as goal

pub returns-in-Some-clause-fits : goal.returns-in-Some-clause-fits
returns-in-Some-clause-fits c =
    lookup_fits c.args.object.now.bytes _ c.args.field c.args.form c.in-Some.value.now c.bytes-bytes.ensures.read.object
    c.requires c.in-Some.ensures.found
