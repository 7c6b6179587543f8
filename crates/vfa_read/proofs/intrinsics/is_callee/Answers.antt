use Rattle.vfa_read.proofs.CalleeNames.{no_intrinsic, no_dot, no_type, one_type}
use Rattle.vfa_read.proofs.intrinsics.is_callee.Goals as goal

pub returns-in_default-after : goal.returns-in_default-after
returns-in_default-after c = no_intrinsic c.args.name.now c.args.intrinsic.now c.args.width c.in-Some.name.now c.in-Some.ensures c.in_default-after.ensures

pub returns-in_default-after-2 : goal.returns-in_default-after-2
returns-in_default-after-2 c = no_dot c.args.name.now c.args.intrinsic.now c.args.width c.in-Some.name.now c.in-Some-after.name.now c.in-Some.ensures c.in-Some-after.ensures c.in_default-after-2.ensures

pub returns-in-Some-type_width : goal.returns-in-Some-type_width
returns-in-Some-type_width c =
    one_type c.args.name.now c.args.intrinsic.now c.args.width c.in-Some.name.now c.in-Some-after.name.now c.in-Some-after-2.name.now c.in-Some-type_width.found
    c.in-Some.ensures c.in-Some-after.ensures c.in-Some-after-2.ensures (record { least = c.requires.least; most = c.requires.most }) c.in-Some-type_width.ensures.gives

pub returns-in-None : goal.returns-in-None
returns-in-None c =
    no_type c.args.name.now c.args.intrinsic.now c.args.width c.in-Some.name.now c.in-Some-after.name.now c.in-Some-after-2.name.now
    c.in-Some.ensures c.in-Some-after.ensures c.in-Some-after-2.ensures (record { least = c.requires.least; most = c.requires.most }) c.in-None.ensures.gives
