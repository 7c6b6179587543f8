-- Numbers that are printed in place of operands stay where lines, in their order, go on to stand for others with the same literals.
use Rattle.std.proofs.Common.{◌≡◌, ℕ, suc, ◌%◌, ◌^◌, ◌++◌, ◌⊎◌, Option, Some, None, List, [], ◌∷◌, slice_get, refl, sym, ap, ◌∙◌, subst, inl, inr}
use Rattle.std.specs.List.{AllByRecursion}
use Rattle.vfa_ir.specs.declared.operations.BlockId.{BlockId}
use Rattle.vfa_ir.specs.declared.operations.Cast.{Cast}
use Rattle.vfa_ir.specs.declared.operations.Operand.{Operand}
use Rattle.vfa_ir.specs.declared.operations.Ty.{Ty}
use Rattle.vfa_ir.specs.declared.operations.ValueId.{ValueId}
use Rattle.vfa_ir.specs.declared.functions.Block.{Block}
use Rattle.vfa_ir.specs.declared.functions.Function.{Function}
use Rattle.vfa_ir.specs.declared.functions.Inst.{Inst}
use Rattle.vfa_ir.specs.declared.functions.Phi.{Phi}
use Rattle.vfa_ir.specs.Operands.{operands_of}
use Rattle.vfa_mean.specs.Moments.{Place, At}
use Rattle.vfa_xfer.specs.declared.any_fact.AnyFact.{AnyFact}
use Rattle.vfa_walk.specs.Tables.{States}
use Rattle.vfa_rewrite.specs.Marks.{term_operands}
use Rattle.vfa_rewrite.specs.PrintedNumbers.{IsSameResult, IsPrintedAs, IsCast, IsDivision, IsNarrowedTo, AreInPlaceOf, nothing, one_line, division_lines, ArePrinted, end, next, StandForSome, none, gone, stands, IsEntryFor, IsPhiFor, IsBlockFor}

-- ---- steps

-- literals stay where they are, at their width
abbrev pub KeepsLiterals : List (Ty × Operand) → List (Ty × Operand) → Type 0
KeepsLiterals xs ys = (k w x : ℕ) → slice_get xs k ≡ Some (Ty.Int w, Operand.Literal x) → slice_get ys k ≡ Some (Ty.Int w, Operand.Literal x)

pub record LineStep (g h : Function) (line line' : Inst) : Type 0 where
  pub result : IsSameResult g h line.result line'.result
  pub literals : KeepsLiterals (operands_of g line.op) (operands_of h line'.op)
  pub truncates : (w v : ℕ) → IsCast Cast.Trunc w v line.op → IsCast Cast.Trunc w v line'.op
  pub extends : (v w : ℕ) → IsCast Cast.Zext v w line.op → IsCast Cast.Zext v w line'.op
  pub divides : (w : ℕ) → IsDivision w line.op → IsDivision w line'.op

abbrev pub IsNoDivision : Inst → Type 0
IsNoDivision line = (w : ℕ) → IsDivision w line.op → ⊥

-- a line goes, or one line stands for it; divisions stay
pub record OneStands (g h : Function) (Rest : List Inst → Type 0) (line : Inst) (lines : List Inst) : Type 0 where
  pub first : Inst
  pub rest : List Inst
  pub are : lines ≡ first ∷ rest
  pub step : LineStep g h line first
  pub later : Rest rest

abbrev pub LineSteps : Function → Function → List Inst → List Inst → Type 0
LineSteps g h [] lines = lines ≡ []
LineSteps g h (line ∷ more) lines = (IsNoDivision line × LineSteps g h more lines) ⊎ OneStands g h (LineSteps g h more) line lines

-- some go, and each other one stands for one
pub record FirstOf {A B : Type 0} (Step : A → B → Type 0) (Rest : List B → Type 0) (x : A) (ys : List B) : Type 0 where
  pub first : B
  pub rest : List B
  pub are : ys ≡ first ∷ rest
  pub step : Step x first
  pub later : Rest rest

abbrev pub SomeStep : {A B : Type 0} → (A → B → Type 0) → List A → List B → Type 0
SomeStep Step [] ys = ys ≡ []
SomeStep Step (x ∷ xs) ys = SomeStep Step xs ys ⊎ FirstOf Step (SomeStep Step xs) x ys

-- `From q q'` says that block q' of the one stands for block q of the other
pub record EntryStep (From : ℕ → ℕ → Type 0) (e e' : Operand × BlockId) : Type 0 where
  pub from : From e.1.0 e'.1.0
  pub literal : (x : ℕ) → e.0 ≡ Operand.Literal x → e'.0 ≡ Operand.Literal x

pub record PhiStep (g h : Function) (From : ℕ → ℕ → Type 0) (p p' : Phi) : Type 0 where
  pub result : slice_get h.values p'.result.0 ≡ slice_get g.values p.result.0
  pub width : p'.width ≡ p.width
  pub entries : SomeStep (EntryStep From) p.entries p'.entries

pub record BlockStep (g h : Function) (From : ℕ → ℕ → Type 0) (c c' : Block) : Type 0 where
  pub name : c'.name ≡ c.name
  pub phis : SomeStep (PhiStep g h From) c.phis c'.phis
  pub insts : LineSteps g h c.insts c'.insts
  pub none : term_operands c.term ≡ [] → term_operands c'.term ≡ []
  pub literals : KeepsLiterals (term_operands c.term) (term_operands c'.term)

-- ---- lists

pub compose : {A B C : Type 0} (R : A → B → Type 0) (S : B → C → Type 0) (T : A → C → Type 0) → ((a : A) (b : B) (c : C) → R a b → S b c → T a c) →
    (xs : List A) (ys : List B) (zs : List C) → StandForSome R xs ys → SomeStep S ys zs → StandForSome T xs zs
compose R S T h xs ys zs none s = subst (StandForSome T []) (sym s) none
compose R S T h xs ys zs (gone x more bs p) s = gone x more zs (compose R S T h more bs zs p s)
compose R S T h xs ys zs (stands x more y bs r p) s = elim s [
  | inl k ↦ gone x more zs (compose R S T h more bs zs p k)
  | inr k ↦ subst (StandForSome T (x ∷ more)) (sym k.are) (stands x more k.first k.rest (h x y k.first r k.step) (compose R S T h more bs k.rest p k.later))
]

module _ (g h : Function) where
  record Split (xs ys zs : List Inst) : Type 0 where
    front : List Inst
    back : List Inst
    is : zs ≡ front ++ back
    fronts : LineSteps g h xs front
    backs : LineSteps g h ys back

  split : (xs ys zs : List Inst) → LineSteps g h (xs ++ ys) zs → Split xs ys zs
  split [] ys zs s = record { front = []; back = zs; is = refl; fronts = refl; backs = s }
  split (x ∷ xs) ys zs s = elim s [
    | inl k ↦ let p = split xs ys zs k.1 in record { front = p.front; back = p.back; is = p.is; fronts = inl (k.0, p.fronts); backs = p.backs }
    | inr k ↦
        let p = split xs ys k.rest k.later in
        record {
          front = k.first ∷ p.front;
          back = p.back;
          is = k.are ∙ ap (λ r. k.first ∷ r) p.is;
          fronts = inr (record { first = k.first; rest = p.front; are = refl; step = k.step; later = p.fronts });
          backs = p.backs;
        }
  ]

  all_step : (P Q : Inst → Type 0) → ((x y : Inst) → LineStep g h x y → P x → Q y) → (xs ys : List Inst) → LineSteps g h xs ys → AllByRecursion P xs → AllByRecursion Q ys
  all_step P Q turn [] ys s all = subst (AllByRecursion Q) (sym s) tt
  all_step P Q turn (x ∷ xs) ys s all = elim s [
    | inl k ↦ all_step P Q turn xs ys k.1 all.1
    | inr k ↦ subst (AllByRecursion Q) (sym k.are) (turn x k.first k.step all.0, all_step P Q turn xs k.rest k.later all.1)
  ]

-- ---- results

pub same_results : (f g h : Function) (a b c : Option ValueId) → IsSameResult f g a b → IsSameResult g h b c → IsSameResult f h a c
same_results f g h None None None k l = tt
same_results f g h None None (Some z) k l = l
same_results f g h None (Some y) c k l = absurd k
same_results f g h (Some x) None c k l = absurd k
same_results f g h (Some x) (Some y) None k l = l
same_results f g h (Some x) (Some y) (Some z) k l = l ∙ k

-- ---- blocks

module _ (f : Function) (t : States AnyFact) (g h : Function) where
  module _ (place : Place) (inst : Inst) where
    line_stands : (line line' : Inst) → IsPrintedAs f t g place inst line → LineStep g h line line' → IsPrintedAs f t h place inst line'
    line_stands line line' p s = record {
      result = same_results f g h inst.result line.result line'.result p.result s.result;
      operands = λ k w x a e one. s.literals k w x (p.operands k w x a e one);
    }

    narrowed_stands : (lines lines' : List Inst) (w v : ℕ) → IsNarrowedTo f t g place inst lines w v → LineSteps g h lines lines' → AreInPlaceOf f t h place inst lines'
    narrowed_stands lines lines' w v n s =
        let p = split g h n.before (n.division ∷ n.behind) lines' (subst (λ ls. LineSteps g h ls lines') n.are s) in
        elim p.backs [
          | inl k ↦ absurd (k.0 v n.divides)
          | inr k ↦ division_lines lines' w v (record {
            lesser = n.lesser;
            before = p.front;
            division = k.first;
            behind = k.rest;
            are = p.is ∙ ap (λ r. p.front ++ r) k.are;
            truncate = all_step g h (λ (line : Inst). IsCast Cast.Trunc w v line.op) (λ (line : Inst). IsCast Cast.Trunc w v line.op) (λ x y l is. l.truncates w v is) n.before p.front p.fronts n.truncate;
            divides = k.step.divides v n.divides;
            extend = all_step g h (λ (line : Inst). IsSameResult f g inst.result line.result × IsCast Cast.Zext v w line.op) (λ (line : Inst). IsSameResult f h inst.result line.result × IsCast Cast.Zext v w line.op)
                (λ x y l is. (same_results f g h inst.result x.result y.result is.0 l.result, l.extends v w is.1)) n.behind k.rest k.later n.extend;
            operands = λ j u x a e one. k.step.literals j v (x % 2 ^ v) (n.operands j u x a e one);
          })
        ]

    place_stands : (lines lines' : List Inst) → AreInPlaceOf f t g place inst lines → LineSteps g h lines lines' → AreInPlaceOf f t h place inst lines'
    place_stands lines lines' nothing s = subst (AreInPlaceOf f t h place inst) (sym s) nothing
    place_stands lines lines' (one_line line p) s = elim s [
      | inl k ↦ subst (AreInPlaceOf f t h place inst) (sym k.1) nothing
      | inr k ↦ subst (AreInPlaceOf f t h place inst) (sym (k.are ∙ ap (λ r. k.first ∷ r) k.later)) (one_line k.first (line_stands line k.first p k.step))
    ]
    place_stands lines lines' (division_lines ls w v n) s = narrowed_stands ls lines' w v n s

  lines_stand : (b i : ℕ) (insts lines lines' : List Inst) → ArePrinted f t g b i insts lines → LineSteps g h lines lines' → ArePrinted f t h b i insts lines'
  lines_stand b i insts lines lines' (end n) s = subst (ArePrinted f t h b n []) (sym s) (end n)
  lines_stand b i insts lines lines' (next n inst rest ls later p more) s =
      let c = split g h ls later lines' s in
      subst (ArePrinted f t h b n (inst ∷ rest)) (sym c.is)
      (next n inst rest c.front c.back (place_stands (At b n) inst ls c.front p c.fronts) (lines_stand b (suc n) rest later c.back more c.backs))

  module _ (kept kept' : List ℕ) (From : ℕ → ℕ → Type 0) (turned : (n q q' : ℕ) → slice_get kept q ≡ Some n → From q q' → slice_get kept' q' ≡ Some n) where
    entry_stands : (b w : ℕ) (e e' e'' : Operand × BlockId) → IsEntryFor f t kept b w e e' → EntryStep From e' e'' → IsEntryFor f t kept' b w e e''
    entry_stands b w e e' e'' p s = record {
      from = turned e.1.0 e'.1.0 e''.1.0 p.from s.from;
      number = λ x one. s.literal x (p.number x one);
    }

    phi_stands : (b : ℕ) (p p' p'' : Phi) → IsPhiFor f t g kept b p p' → PhiStep g h From p' p'' → IsPhiFor f t h kept' b p p''
    phi_stands b p p' p'' k s = record {
      result = s.result ∙ k.result;
      width = s.width ∙ k.width;
      entries = compose (IsEntryFor f t kept b p.width) (EntryStep From) (IsEntryFor f t kept' b p.width) (entry_stands b p.width) p.entries p'.entries p''.entries k.entries s.entries;
    }

    pub block_stands : (b : ℕ) (block c c' : Block) → IsBlockFor f t g kept b block c → BlockStep g h From c c' → IsBlockFor f t h kept' b block c'
    block_stands b block c c' k s = record {
      name = s.name ∙ k.name;
      phis = compose (IsPhiFor f t g kept b) (PhiStep g h From) (IsPhiFor f t h kept' b) (phi_stands b) block.phis c.phis c'.phis k.phis s.phis;
      insts = lines_stand b 0 block.insts c.insts c'.insts k.insts s.insts;
      term = elim k.term [
        | inl e ↦ inl (s.none e)
        | inr p ↦ inr (λ j w x a e one. s.literals j w x (p j w x a e one))
      ];
    }
