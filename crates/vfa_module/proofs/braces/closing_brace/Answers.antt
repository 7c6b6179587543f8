use Rattle.std.proofs.Common.{◌<◌, length, arith, refl}
use Rattle.vfa_ir.proofs.Reading.{feeds_range}
use Rattle.vfa_module.proofs.braces.closing_brace.Goals as goal

pub returns-in-Some-clause-found : goal.returns-in-Some-clause-found
returns-in-Some-clause-found c =
    let place = c.in-Some.ensures.place in
    let inside : c.in-Some.place < length c.args.bytes.now = place.1 in
    let feeds = feeds_range c.args.bytes.now c.args.start c.in-Some.place place.0 in
    let count = c.line_feeds.ensures.count in
    record {
      after = place.0;
      byte_is = c.in-Some.ensures.byte_is;
      one = refl;
      within = omega arith;
      lines = omega arith;
    }
