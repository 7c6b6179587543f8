use Rattle.std.proofs.Common.{lit<}
use Rattle.vfa_fact.specs.Views.{numbers_of}
use Rattle.vfa_wrap.specs.Ends.{shown_ends}
use Rattle.vfa_wrap.specs.declared.reading.Reading.TheVariants.{Unsigned, Signed}
use Rattle.vfa_rules.proofs.EndTests.{no_first, no_second, no_amount, both_kept, stays_is}
use Rattle.vfa_rules.proofs.spans.stays_at.Goals as goal

pub returns-in_default : goal.returns-in_default
returns-in_default g c =
    both_kept c.args.op c.args.a.now c.args.b.now _ _
    (no_first c.args.op c.args.a.now c.args.b.now Unsigned c.in_default.ensures.numbers)
    (no_first c.args.op c.args.a.now c.args.b.now Signed c.in_default.ensures.numbers)

pub returns-in_default-typed : goal.returns-in_default-typed
returns-in_default-typed g c =
    both_kept c.args.op c.args.a.now c.args.b.now _ _
    (no_second c.args.op c.args.a.now c.args.b.now Unsigned c.in_default-typed.ensures.numbers)
    (no_second c.args.op c.args.a.now c.args.b.now Signed c.in_default-typed.ensures.numbers)

pub returns-in_default-second_ends : goal.returns-in_default-second_ends
returns-in_default-second_ends g c =
    let m = numbers_of c.in-Some.one in let n = numbers_of c.in-Some-typed.two in
    both_kept c.args.op c.args.a.now c.args.b.now _ _
    (no_amount c.args.op c.args.a.now c.args.b.now g.row.W m n c.requires.left c.requires.right c.in-Some.ensures.numbers c.in-Some-typed.ensures.numbers Unsigned c.in_default-second_ends.ensures.exact)
    (no_amount c.args.op c.args.a.now c.args.b.now g.row.W m n c.requires.left c.requires.right c.in-Some.ensures.numbers c.in-Some-typed.ensures.numbers Signed c.in_default-second_ends.ensures.exact)

pub fits-requires : goal.fits-requires
fits-requires g c = (lit< tt, (c.requires.width, (c.ends-first.ensures.reached, c.in-Some-second_ends.ensures.usable)))

pub fits-requires-2 : goal.fits-requires-2
fits-requires-2 g c = (lit< tt, (c.requires.width, (c.ends-first.ensures.reached, c.in-Some-second_ends.ensures.usable)))

pub returns : goal.returns
returns g c =
    let m = numbers_of c.in-Some.one in let n = numbers_of c.in-Some-typed.two in
    let x = shown_ends c.ends-first.result in let y = shown_ends c.in-Some-second_ends.second in
    both_kept c.args.op c.args.a.now c.args.b.now _ _
    (stays_is c.args.op c.args.a.now c.args.b.now g.row.W m n c.requires.left c.requires.right c.in-Some.ensures.numbers c.in-Some-typed.ensures.numbers Unsigned x y c.fits.result c.ends-first.ensures.value c.in-Some-second_ends.ensures.exact c.fits.ensures.exact)
    (stays_is c.args.op c.args.a.now c.args.b.now g.row.W m n c.requires.left c.requires.right c.in-Some.ensures.numbers c.in-Some-typed.ensures.numbers Signed x y c.fits-2.result c.ends-first.ensures.value c.in-Some-second_ends.ensures.exact c.fits-2.ensures.exact)
