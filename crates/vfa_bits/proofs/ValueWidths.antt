-- The types of the values of a printable function are of widths from 1 to 128.
use Rattle.std.proofs.Common.{◌≡◌, ℕ, zero, suc, Bool, true, false, Option, Some, None, List, [], ◌∷◌, ◌++◌, map, flat_map, take, drop, length, slice_get, ◌==◌, if◌then◌else◌, sym, subst, lit≤}
use Rattle.std.specs.List.{AllByRecursion, cons_option}
use Rattle.std.specs.Option.{option_map_or}
use Rattle.std.proofs.lemmas.List.Elements.{recursion_from_All}
use Rattle.vfa_ir.specs.declared.operations.Op.{Op}
use Rattle.vfa_ir.specs.declared.operations.Ty.{Ty}
use Rattle.vfa_ir.specs.declared.operations.ValueId.{ValueId}
use Rattle.vfa_ir.specs.declared.functions.Block.{Block}
use Rattle.vfa_ir.specs.declared.functions.Function.{Function}
use Rattle.vfa_ir.specs.declared.functions.Inst.{Inst}
use Rattle.vfa_ir.specs.declared.functions.Phi.{Phi}
use Rattle.vfa_ir.specs.declared.functions.Value.{Value}
use Rattle.vfa_ir.specs.Grammar as grammar
use Rattle.vfa_ir.specs.Printable.{IsIntegerType, IsPrintable, PrintableBlock, PrintableInst, PrintableOp, PrintablePhi, block_types, inst_types, op_type}
use Rattle.vfa_word.specs.Numbers.{IsWidth}
use Rattle.vfa_demand.specs.Masks.{number_width}
use Rattle.vfa_bits.specs.Changed.{name_type}

abbrev Wide : Ty → Type 0
Wide t = IsWidth (number_width t)

is_width : (w : ℕ) → grammar.IsWidth w → IsWidth w
is_width w h = record { least = h.least; most = h.most }

is_bit : IsWidth 1
is_bit = record { least = lit≤ tt; most = lit≤ tt }

op_wide : (f : Function) (op : Op) → PrintableOp f op → Wide (op_type op)
op_wide f (Op.Bin bin flags w a b) h = is_width w h.1.of_width
op_wide f (Op.Icmp pred samesign w a b) h = is_bit
op_wide f (Op.Select w c a b) h = is_width w h.1.of_width
op_wide f (Op.Cast cast flags from to a) h = is_width to h.3
op_wide f (Op.Freeze w a) h = is_width w h.0
op_wide f (Op.Two fun w a b) h = is_width w h.of_width
op_wide f (Op.One fun w a strict) h = is_width w h.0
op_wide f (Op.Over over w a b) h = is_width w h.of_width
op_wide f (Op.Part w pair index) h = by (index == 0)
  where
    by : (t : Bool) → Wide (if t then Ty.Int w else Ty.Int 1)
    by true = is_width w h.0
    by false = is_bit
op_wide f (Op.Assume c) h = is_bit
op_wide f (Op.Call (Some w) place) h = is_width w h
op_wide f (Op.Call None place) h = is_bit

-- ---- lists

wide_append : (xs ys : List Ty) → AllByRecursion Wide xs → AllByRecursion Wide ys → AllByRecursion Wide (xs ++ ys)
wide_append [] ys a b = b
wide_append (x ∷ xs) ys a b = (a.0, wide_append xs ys a.1 b)

phis_wide : (f : Function) (phis : List Phi) → AllByRecursion (PrintablePhi f) phis → AllByRecursion Wide (map (λ (p : Phi). Ty.Int p.width) phis)
phis_wide f [] all = tt
phis_wide f (p ∷ phis) all = (is_width p.width all.0.width, phis_wide f phis all.1)

insts_wide : (f : Function) (insts : List Inst) → AllByRecursion (PrintableInst f) insts → AllByRecursion Wide (inst_types insts)
insts_wide f [] all = tt
insts_wide f (i ∷ insts) all = by i.result (insts_wide f insts all.1)
  where
    by : (o : Option ValueId) → AllByRecursion Wide (inst_types insts) →
        AllByRecursion Wide (cons_option (elim o [ None ↦ None | Some _ ↦ Some (op_type i.op) ]) (inst_types insts))
    by None rest = rest
    by (Some v) rest = (op_wide f i.op all.0.op, rest)

blocks_wide : (f : Function) (blocks : List Block) → AllByRecursion (PrintableBlock f) blocks → AllByRecursion Wide (flat_map block_types blocks)
blocks_wide f [] all = tt
blocks_wide f (b ∷ blocks) all =
    wide_append (block_types b) (flat_map block_types blocks)
    (wide_append (map (λ (p : Phi). Ty.Int p.width) b.phis) (inst_types b.insts)
    (phis_wide f b.phis (recursion_from_All (PrintablePhi f) b.phis all.0.phis)) (insts_wide f b.insts (recursion_from_All (PrintableInst f) b.insts all.0.insts)))
    (blocks_wide f blocks all.1)

-- the values from a place on have the one types, and those before it the others
parts_wide : (values : List Value) (k : ℕ) (types : List Ty) → AllByRecursion (λ (v : Value). IsIntegerType v.ty) (take k values) →
    map (λ (v : Value). v.ty) (drop k values) ≡ types → AllByRecursion Wide types → AllByRecursion (λ (v : Value). Wide v.ty) values
parts_wide values zero types before same after = whole values (subst (AllByRecursion Wide) (sym same) after)
  where
    whole : (values : List Value) → AllByRecursion Wide (map (λ (v : Value). v.ty) values) → AllByRecursion (λ (v : Value). Wide v.ty) values
    whole [] all = tt
    whole (v ∷ rest) all = (all.0, whole rest all.1)
parts_wide [] (suc k) types before same after = tt
parts_wide (v ∷ values) (suc k) types before same after = (number v.ty before.0, parts_wide values k types before.1 same after)
  where
    number : (t : Ty) → IsIntegerType t → Wide t
    number (Ty.Int w) h = is_width w h
    number (Ty.Pair w) h = absurd h

type_wide : (values : List Value) (v : ℕ) → AllByRecursion (λ (v : Value). Wide v.ty) values → Wide (option_map_or (λ (v : Value). v.ty) (slice_get values v) (Ty.Int 1))
type_wide [] v all = is_bit
type_wide (x ∷ values) zero all = all.0
type_wide (x ∷ values) (suc v) all = type_wide values v all.1

pub values_wide : (f : Function) → IsPrintable f → (v : ℕ) → IsWidth (number_width (name_type f v))
values_wide f printable v =
    type_wide f.values v
    (parts_wide f.values (length f.params) (flat_map block_types f.blocks)
    (recursion_from_All (λ (v : Value). IsIntegerType v.ty) (take (length f.params) f.values) printable.types.parameters) printable.types.results
    (blocks_wide f f.blocks (recursion_from_All (PrintableBlock f) f.blocks printable.blocks)))
