use Rattle.std.proofs.Common.{◌≡◌, ◌≤◌, ◌+◌, ◌-◌, ◌<◌, length, take}
use Rattle.std.specs.List.{AllByRecursion}
use Rattle.vfa_ir.specs.Tokens.{line_feeds}
use Rattle.vfa_module.proofs.Steps.{AreClosed, items_then}
use Rattle.vfa_module.specs.Defines.{BeginsLine, HasNoDefine, IsPart}
use Rattle.vfa_module.specs.Split as spec
use Rattle.vfa_module.proofs.splitting.split.Given as goal

abbrev pub invariant-loop-at : goal.invariant-loop-at
invariant-loop-at l = record {
  within : l.at ≤ length l.bytes;
  lines : l.line ≤ 1 + l.at;
  copied : l.copied ≤ l.at;
  same :
      spec.split_of l.bytes ≡
      items_then l.items.items l.copied (length l.bytes) (spec.defines_from l.bytes l.at l.line);
  cover : spec.Cover 0 l.copied l.items.items;
  parts : AllByRecursion (IsPart l.bytes) l.items.items;
  closed : AreClosed l.items.items;
  none : HasNoDefine l.bytes l.copied l.at;
  begins : l.at < length l.bytes → BeginsLine l.bytes l.at;
  counted : l.at < length l.bytes → l.line ≡ 1 + line_feeds (take l.at l.bytes);
}

abbrev pub decreases-loop-at : goal.decreases-loop-at
decreases-loop-at l = length l.bytes - l.at
