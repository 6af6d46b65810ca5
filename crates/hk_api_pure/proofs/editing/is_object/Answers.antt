use Rattle.hk_api_pure.proofs.Readings.{test_is}
use Rattle.hk_api_pure.proofs.editing.is_object.Goals as goal

pub returns : goal.returns
returns c = test_is c.args.bytes.now _ c.validate.ensures.object
