use native.Mathlib.Omega.{arith}
use Rattle.defining.proofs.Writing.{header_put}
use Rattle.defining.proofs.write_header.Goals as goal

pub returns : goal.returns
returns c = header_put c.args.number c.args.long c.args.store.now c.args.at _ c.requires.1 c.requires.2 c.requires.0 (omega arith) c.to_be_bytes.ensures c.copy_from_slice.ensures.after
