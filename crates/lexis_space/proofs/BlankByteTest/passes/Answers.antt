use Rattle.lexis_laws.proofs.Bytes.{blank-either}
use Rattle.lexis_space.proofs.BlankByteTest.passes.Goals as goal

pub returns : goal.returns
returns c = blank-either c.args.b
