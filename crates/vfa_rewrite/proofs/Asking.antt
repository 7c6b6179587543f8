-- The operands whose facts the rules ask for are of their types, and so are the facts.
use Rattle.std.proofs.Common.{◌≡◌, ℕ, Bool, true, false, nat_eq, if◌then◌else◌, Option, Some, None, IfSome, List, [], ◌∷◌, refl, subst}
use Rattle.std.specs.List.{AllByRecursion}
use Rattle.std.specs.Option.{ForSome, option_or}
use Rattle.std.proofs.lemmas.Bool.{eqb-true}
use Rattle.std.proofs.lemmas.Option.{same_Some}
use Rattle.std.proofs.lemmas.List.Elements.{recursion_from_All}
use Rattle.vfa_ir.specs.declared.operations.Op.{Op}
use Rattle.vfa_ir.specs.declared.operations.Operand.{Operand}
use Rattle.vfa_ir.specs.declared.operations.Ty.{Ty}
use Rattle.vfa_ir.specs.declared.functions.Block.{Block}
use Rattle.vfa_ir.specs.declared.functions.Function.{Function}
use Rattle.vfa_ir.specs.declared.functions.Inst.{Inst}
use Rattle.vfa_ir.specs.Printable.{PrintableOp}
use Rattle.vfa_ir.specs.Typed.{TypedOp}
use Rattle.vfa_word.specs.Numbers.{IsWidth}
use Rattle.vfa_values.specs.Conditions.{IsOf}
use Rattle.vfa_cond.specs.Conditions.{IsNumberOperand}
use Rattle.vfa_walk.specs.Ready.{IsOperandOf, IsReady, IsReadyBlock, IsReadyInst}
use Rattle.vfa_walk.specs.Stepping.{third_type}
use Rattle.vfa_walk.proofs.Facts.{first_fits, second_fits, third_fits}
use Rattle.vfa_walk.proofs.TruthTypes.{written_width}
use Rattle.vfa_xfer.specs.declared.any_fact.AnyFact.{AnyFact}
use Rattle.vfa_xfer.specs.AnyFacts.{fact_type, IsAnyFact}
use Rattle.vfa_rules.specs.declared.change.OverflowCall.{OverflowCall}
use Rattle.vfa_rules.specs.Facts.{type_of_parts, AreCells}
use Rattle.vfa_rules.specs.Results.{AreFactsFor}
use Rattle.vfa_rules.specs.Uses.{first_found, is_result, overflow_of, overflow_in, overflow_call}
use Rattle.vfa_rewrite.specs.Asked.{asked_of}
use Rattle.vfa_rewrite.specs.ByFacts.{first_known, second_known, known_type}

-- ---- the overflow intrinsic of a pair

abbrev CallFits : Function → ℕ → OverflowCall → Type 0
CallFits f w call = IsNumberOperand f w call.a × IsNumberOperand f w call.b

or_holds : {B : Type 0} (Q : B → Type 0) (p q : Option B) → ForSome p Q → ForSome q Q → ForSome (option_or p q) Q
or_holds Q None q h k = k
or_holds Q (Some x) q h k = h

first_holds : {A B : Type 0} (P : A → Type 0) (Q : B → Type 0) (look : A → Option B) → ((x : A) → P x → ForSome (look x) Q) → (xs : List A) → AllByRecursion P xs →
    ForSome (first_found look xs) Q
first_holds P Q look each [] h = λ x e. absurd (cc)
first_holds P Q look each (x ∷ xs) h = or_holds Q (look x) (first_found look xs) (each x h.0) (first_holds P Q look each xs h.1)

op_call : (f : Function) (w : ℕ) (op : Op) → PrintableOp f op → TypedOp f op → ForSome (overflow_of w op) (CallFits f w)
op_call f w (Op.Over over u a b) ranges typed = by (nat_eq u w) refl
  where
    by : (t : Bool) → nat_eq u w ≡ t → ForSome (if t then Some (record { over = over; a = a; b = b }) else None) (CallFits f w)
    by true e = λ call s.
        let same : record { over = over; a = a; b = b } ≡ call = same_Some (record { over = over; a = a; b = b }) call s in
        subst (CallFits f w) same (subst (λ v. IsNumberOperand f v a × IsNumberOperand f v b) (eqb-true u w e)
        (first_fits f (Op.Over over u a b) ranges typed, second_fits f (Op.Over over u a b) ranges typed))
    by false e = λ call s. absurd (cc)
op_call f w (Op.Bin bin flags u a b) ranges typed = λ call s. absurd (cc)
op_call f w (Op.Icmp pred samesign u a b) ranges typed = λ call s. absurd (cc)
op_call f w (Op.Select u c a b) ranges typed = λ call s. absurd (cc)
op_call f w (Op.Cast cast flags u x a) ranges typed = λ call s. absurd (cc)
op_call f w (Op.Freeze u a) ranges typed = λ call s. absurd (cc)
op_call f w (Op.Two fun u a b) ranges typed = λ call s. absurd (cc)
op_call f w (Op.One fun u a strict) ranges typed = λ call s. absurd (cc)
op_call f w (Op.Part u pair index) ranges typed = λ call s. absurd (cc)
op_call f w (Op.Assume c) ranges typed = λ call s. absurd (cc)
op_call f w (Op.Call u c) ranges typed = λ call s. absurd (cc)

inst_call : (f : Function) (w v : ℕ) (inst : Inst) → IsReadyInst f inst → ForSome (overflow_in w v inst) (CallFits f w)
inst_call f w v inst ready = by (is_result v inst.result)
  where
    by : (t : Bool) → ForSome (if t then overflow_of w inst.op else None) (CallFits f w)
    by true = op_call f w inst.op ready.ranges ready.operands
    by false = λ call s. absurd (cc)

found_call : (f : Function) (w v : ℕ) → IsReady f → ForSome (first_found (λ (b : Block). first_found (overflow_in w v) b.insts) f.blocks) (CallFits f w)
found_call f w v ready =
    first_holds (IsReadyBlock f) (CallFits f w) (λ (b : Block). first_found (overflow_in w v) b.insts)
    (λ block of. first_holds (IsReadyInst f) (CallFits f w) (overflow_in w v) (inst_call f w v) block.insts (recursion_from_All (IsReadyInst f) block.insts of.insts))
    f.blocks (recursion_from_All (IsReadyBlock f) f.blocks ready.blocks)

-- ---- the operands

poison_fits : (f : Function) (w : ℕ) → IsWidth w → IsNumberOperand f w Operand.Poison
poison_fits f w width = record { width = width; range = tt; typed = tt }

part_first : (f : Function) (w : ℕ) (op : Op) → IsNumberOperand f w (first_known None op) → (o : Option OverflowCall) → ForSome o (CallFits f w) → IsNumberOperand f w (first_known o op)
part_first f w op other None h = other
part_first f w op other (Some call) h = (h call refl).0

part_second : (f : Function) (w : ℕ) (op : Op) → IsNumberOperand f w (second_known None op) → (o : Option OverflowCall) → ForSome o (CallFits f w) → IsNumberOperand f w (second_known o op)
part_second f w op other None h = other
part_second f w op other (Some call) h = (h call refl).1

pub first_asked : (f : Function) → IsReady f → (op : Op) → PrintableOp f op → TypedOp f op → IsOperandOf f (asked_of f op).sides (asked_of f op).a
first_asked f ready (Op.Bin bin flags w a b) ranges typed = first_fits f (Op.Bin bin flags w a b) ranges typed
first_asked f ready (Op.Icmp pred samesign w a b) ranges typed = first_fits f (Op.Icmp pred samesign w a b) ranges typed
first_asked f ready (Op.Select w c a b) ranges typed = first_fits f (Op.Select w c a b) ranges typed
first_asked f ready (Op.Cast cast flags w x a) ranges typed = first_fits f (Op.Cast cast flags w x a) ranges typed
first_asked f ready (Op.Freeze w a) ranges typed = first_fits f (Op.Freeze w a) ranges typed
first_asked f ready (Op.Two fun w a b) ranges typed = first_fits f (Op.Two fun w a b) ranges typed
first_asked f ready (Op.One fun w a strict) ranges typed = first_fits f (Op.One fun w a strict) ranges typed
first_asked f ready (Op.Over over w a b) ranges typed = first_fits f (Op.Over over w a b) ranges typed
first_asked f ready (Op.Part w pair index) ranges typed =
    part_first f w (Op.Part w pair index) (poison_fits f w (written_width w ranges.0)) (overflow_call f (Op.Part w pair index)) (found_call f w pair.0 ready)
first_asked f ready (Op.Assume c) ranges typed = first_fits f (Op.Assume c) ranges typed
first_asked f ready (Op.Call w c) ranges typed = first_fits f (Op.Call w c) ranges typed

pub second_asked : (f : Function) → IsReady f → (op : Op) → PrintableOp f op → TypedOp f op → IsOperandOf f (asked_of f op).sides (asked_of f op).b
second_asked f ready (Op.Bin bin flags w a b) ranges typed = second_fits f (Op.Bin bin flags w a b) ranges typed
second_asked f ready (Op.Icmp pred samesign w a b) ranges typed = second_fits f (Op.Icmp pred samesign w a b) ranges typed
second_asked f ready (Op.Select w c a b) ranges typed = second_fits f (Op.Select w c a b) ranges typed
second_asked f ready (Op.Cast cast flags w x a) ranges typed = second_fits f (Op.Cast cast flags w x a) ranges typed
second_asked f ready (Op.Freeze w a) ranges typed = second_fits f (Op.Freeze w a) ranges typed
second_asked f ready (Op.Two fun w a b) ranges typed = second_fits f (Op.Two fun w a b) ranges typed
second_asked f ready (Op.One fun w a strict) ranges typed = second_fits f (Op.One fun w a strict) ranges typed
second_asked f ready (Op.Over over w a b) ranges typed = second_fits f (Op.Over over w a b) ranges typed
second_asked f ready (Op.Part w pair index) ranges typed =
    part_second f w (Op.Part w pair index) (poison_fits f w (written_width w ranges.0)) (overflow_call f (Op.Part w pair index)) (found_call f w pair.0 ready)
second_asked f ready (Op.Assume c) ranges typed = second_fits f (Op.Assume c) ranges typed
second_asked f ready (Op.Call w c) ranges typed = second_fits f (Op.Call w c) ranges typed

pub third_asked : (f : Function) → (op : Op) → PrintableOp f op → TypedOp f op → IsOperandOf f (asked_of f op).third (asked_of f op).c
third_asked f op ranges typed = third_fits f op ranges typed

-- ---- the facts

of_parts : (ty : Ty) (d : AnyFact) → IsOf fact_type IsAnyFact ty d → IsOf type_of_parts AreCells ty d.parts
of_parts ty d of = record { is_proper = of.is_proper; typed = of.typed }

call_facts : (w : ℕ) (a b : AnyFact) → IsOf fact_type IsAnyFact (Ty.Int w) a → IsOf fact_type IsAnyFact (Ty.Int w) b → (o : Option OverflowCall) →
    IfSome o (λ call. IsOf type_of_parts AreCells (Ty.Int w) a.parts × IsOf type_of_parts AreCells (Ty.Int w) b.parts)
call_facts w a b x y None = tt
call_facts w a b x y (Some call) = (of_parts (Ty.Int w) a x, of_parts (Ty.Int w) b y)

pub facts_for : (f : Function) (op : Op) (used : Bool) (a b c : AnyFact) → IsOf fact_type IsAnyFact (known_type op) a → IsOf fact_type IsAnyFact (known_type op) b →
    IsOf fact_type IsAnyFact (third_type op) c → AreFactsFor (record { a = a.parts; b = b.parts; c = c.parts; call = overflow_call f op; used = used }) op
facts_for f (Op.Bin bin flags w _ _) used a b c x y z = record { operands = (of_parts (Ty.Int w) a x, of_parts (Ty.Int w) b y); call_operands = tt }
facts_for f (Op.Icmp pred samesign w _ _) used a b c x y z = record { operands = (of_parts (Ty.Int w) a x, of_parts (Ty.Int w) b y); call_operands = tt }
facts_for f (Op.Select w _ _ _) used a b c x y z =
    record { operands = (of_parts (Ty.Int w) a x, of_parts (Ty.Int w) b y, of_parts (Ty.Int 1) c z); call_operands = tt }
facts_for f (Op.Cast cast flags w v _) used a b c x y z = record { operands = of_parts (Ty.Int w) a x; call_operands = tt }
facts_for f (Op.Freeze w _) used a b c x y z = record { operands = of_parts (Ty.Int w) a x; call_operands = tt }
facts_for f (Op.Two fun w _ _) used a b c x y z = record { operands = (of_parts (Ty.Int w) a x, of_parts (Ty.Int w) b y); call_operands = tt }
facts_for f (Op.One fun w _ strict) used a b c x y z = record { operands = of_parts (Ty.Int w) a x; call_operands = tt }
facts_for f (Op.Over over w _ _) used a b c x y z = record { operands = (of_parts (Ty.Int w) a x, of_parts (Ty.Int w) b y); call_operands = tt }
facts_for f (Op.Part w pair index) used a b c x y z =
    record { operands = of_parts (Ty.Pair w) c z; call_operands = call_facts w a b x y (overflow_call f (Op.Part w pair index)) }
facts_for f (Op.Assume _) used a b c x y z = record { operands = of_parts (Ty.Int 1) c z; call_operands = tt }
facts_for f (Op.Call w _) used a b c x y z = record { operands = tt; call_operands = tt }
