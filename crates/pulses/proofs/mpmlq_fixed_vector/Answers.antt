use Rattle.std.proofs.Common.{sym}
use Rattle.positions.proofs.Bits.{read_of, read_none}
use Rattle.pulses.proofs.Placing.{vector-none}
use Rattle.pulses.proofs.mpmlq_fixed_vector.Goals as goal

pub returns-in_default : goal.returns-in_default
returns-in_default c =
    let d = c.args.d in
    vector-none d (read_none d.count d.code (sym c.in_default.ensures))

pub add_pulses-requires : goal.add_pulses-requires
add_pulses-requires c =
    let d = c.args.d in
    let r = read_of d.count d.code c.in-Some.found (sym c.in-Some.ensures) in
    record { code_bound = r.0; found_value = r.1 }
