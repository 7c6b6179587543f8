-- The literals of a printable function are numbers of their widths, so its landmarks are what is gathered, in order.
use Rattle.std.proofs.Common.{◌≡◌, ◌<◌, ◌^◌, ◌-◌, ℕ, zero, suc, Bool, true, false, nat_eq, if◌then◌else◌, List, [], ◌∷◌, ◌++◌, map, flat_map, Contains, refl, sym, subst, arith, eqb-true, eq-eqb, ◌⊎◌, inl, inr}
use Rattle.std.specs.Prelude.{slice_get}
use Rattle.std.specs.List.{AllByRecursion}
use Rattle.std.specs.List.Sorted.{IsStrictlyIncreasing}
use Rattle.std.proofs.lemmas.List.Elements.{All-from_recursion, recursion_from_All, All-contains, Contains-append_left, Contains-append_right, Contains-append_cases}
use Rattle.std.proofs.lemmas.Nat.{pow_pos, pow_below}
use Rattle.vfa_ir.specs.declared.operations.BlockId.{BlockId}
use Rattle.vfa_ir.specs.declared.operations.Op.{Op}
use Rattle.vfa_ir.specs.declared.operations.Operand.{Operand}
use Rattle.vfa_ir.specs.declared.operations.Ty.{Ty}
use Rattle.vfa_ir.specs.declared.functions.Block.{Block}
use Rattle.vfa_ir.specs.declared.functions.CallArg.{CallArg}
use Rattle.vfa_ir.specs.declared.functions.CallOp.{CallOp}
use Rattle.vfa_ir.specs.declared.functions.Function.{Function}
use Rattle.vfa_ir.specs.declared.functions.Inst.{Inst}
use Rattle.vfa_ir.specs.declared.functions.Phi.{Phi}
use Rattle.vfa_ir.specs.declared.functions.Term.{Term}
use Rattle.vfa_ir.specs.Operands.{arguments_of}
use Rattle.vfa_ir.specs.Printable.{IsPrintable, IsOperand, IsBlock, PrintableArgument, PrintableBlock, PrintableCall, PrintableInst, PrintableOp, PrintablePhi, PrintableTerm}
use Rattle.vfa_ir.specs.Words.{is_in}
use Rattle.vfa_word.specs.Numbers.{IsWidth}
use Rattle.vfa_cfg.proofs.Members.{or_cases, or_left, or_right, first_or_rest}
use Rattle.vfa_walk.specs.Landmarks.{block_literals, ends_of, is_landmark, landmarks, literal_of, literals, op_literals, phi_literals, term_literals, typed_literal}
use Rattle.vfa_walk.proofs.Rising.{contained_cases, contained_first, contained_rest, filter_is}

-- ---- lists of lists

-- each of these numbers is below the bound
abbrev pub AreBelow : ℕ → List ℕ → Type 0
AreBelow n xs = AllByRecursion (λ x. x < n) xs

both_below : (n : ℕ) (xs ys : List ℕ) → AreBelow n xs → AreBelow n ys → AreBelow n (xs ++ ys)
both_below n [] ys first second = second
both_below n (x ∷ xs) ys first second = (first.0, both_below n xs ys first.1 second)

each_below : {A : Type 0} (P : A → Type 0) (g : A → List ℕ) (n : ℕ) → ((a : A) → P a → AreBelow n (g a)) → (xs : List A) → AllByRecursion P xs → AreBelow n (flat_map g xs)
each_below P g n each [] all = tt
each_below P g n each (a ∷ xs) all = both_below n (g a) (flat_map g xs) (each a all.0) (each_below P g n each xs all.1)

-- ---- literals

module _ (f : Function) (w : ℕ) where
  literal_below : (v : ℕ) (x : Operand) → IsOperand f v x → AreBelow (2 ^ w) (literal_of w v x)
  literal_below v (Operand.Value u) is = tt
  literal_below v (Operand.Literal bits) is = at (nat_eq v w) refl
    where
      at : (b : Bool) → nat_eq v w ≡ b → AreBelow (2 ^ w) (if b then bits ∷ [] else [])
      at true same = let e : v ≡ w = eqb-true v w same in (subst (λ k. bits < 2 ^ k) e is, tt)
      at false other = tt
  literal_below v Operand.Poison is = tt

  one_below : (v : ℕ) (x : Operand) → IsOperand f v x → AreBelow (2 ^ w) (flat_map (typed_literal w) ((Ty.Int v, x) ∷ []))
  one_below v x is = both_below (2 ^ w) (literal_of w v x) [] (literal_below v x is) tt

  two_below : (v : ℕ) (x y : Operand) → IsOperand f v x → IsOperand f v y → AreBelow (2 ^ w) (flat_map (typed_literal w) ((Ty.Int v, x) ∷ (Ty.Int v, y) ∷ []))
  two_below v x y first second = both_below (2 ^ w) (literal_of w v x) (flat_map (typed_literal w) ((Ty.Int v, y) ∷ [])) (literal_below v x first) (one_below v y second)

  arguments_below : (args : List CallArg) → AllByRecursion (PrintableArgument f) args → AreBelow (2 ^ w) (flat_map (typed_literal w) (map (λ (a : CallArg). (Ty.Int a.width, a.value)) args))
  arguments_below [] all = tt
  arguments_below (a ∷ args) all =
      both_below (2 ^ w) (literal_of w a.width a.value) (flat_map (typed_literal w) (map (λ (a : CallArg). (Ty.Int a.width, a.value)) args))
      (literal_below a.width a.value all.0.value) (arguments_below args all.1)

  call_below : (calls : List CallOp) (place : ℕ) → AllByRecursion (PrintableCall f) calls → AreBelow (2 ^ w) (flat_map (typed_literal w) (arguments_of (slice_get calls place)))
  call_below [] place all = tt
  call_below (c ∷ calls) zero all = arguments_below c.args (recursion_from_All (PrintableArgument f) c.args all.0.arguments)
  call_below (c ∷ calls) (suc place) all = call_below calls place all.1

  module _ (printable : IsPrintable f) where
    op_below : (op : Op) → PrintableOp f op → AreBelow (2 ^ w) (op_literals f w op)
    op_below (Op.Bin _ _ v a b) is = two_below v a b is.1.first is.1.second
    op_below (Op.Icmp _ _ v a b) is = two_below v a b is.first is.second
    op_below (Op.Select v c a b) is =
        both_below (2 ^ w) (literal_of w 1 c) (flat_map (typed_literal w) ((Ty.Int v, a) ∷ (Ty.Int v, b) ∷ [])) (literal_below 1 c is.0) (two_below v a b is.1.first is.1.second)
    op_below (Op.Cast _ _ from _ a) is = one_below from a is.2
    op_below (Op.Freeze v a) is = one_below v a is.1
    op_below (Op.Two _ v a b) is = two_below v a b is.first is.second
    op_below (Op.One _ v a _) is = one_below v a is.1
    op_below (Op.Over _ v a b) is = two_below v a b is.first is.second
    op_below (Op.Part v pair index) is = tt
    op_below (Op.Assume c) is = one_below 1 c is
    op_below (Op.Call v place) is = call_below f.calls place (recursion_from_All (PrintableCall f) f.calls printable.calls)

    phi_below : (p : Phi) → PrintablePhi f p → AreBelow (2 ^ w) (phi_literals w p)
    phi_below p is =
        each_below (λ (e : Operand × BlockId). IsOperand f p.width e.0 × IsBlock f e.1) (λ (e : Operand × BlockId). literal_of w p.width e.0) (2 ^ w)
        (λ e both. literal_below p.width e.0 both.0) p.entries (recursion_from_All (λ (e : Operand × BlockId). IsOperand f p.width e.0 × IsBlock f e.1) p.entries is.entries)

    cases_below : (v : ℕ) (cases : List (ℕ × BlockId)) → AllByRecursion (λ (c : ℕ × BlockId). (c.0 < 2 ^ v) × IsBlock f c.1) cases →
        AreBelow (2 ^ w) (if nat_eq v w then map (λ (c : ℕ × BlockId). c.0) cases else [])
    cases_below v cases all = at (nat_eq v w) refl
      where
        each : (cases : List (ℕ × BlockId)) → v ≡ w → AllByRecursion (λ (c : ℕ × BlockId). (c.0 < 2 ^ v) × IsBlock f c.1) cases → AreBelow (2 ^ w) (map (λ (c : ℕ × BlockId). c.0) cases)
        each [] e all = tt
        each (c ∷ cases) e all = (subst (λ k. c.0 < 2 ^ k) e all.0.0, each cases e all.1)

        at : (b : Bool) → nat_eq v w ≡ b → AreBelow (2 ^ w) (if b then map (λ (c : ℕ × BlockId). c.0) cases else [])
        at true same = each cases (eqb-true v w same) all
        at false other = tt

    term_below : (t : Term) → PrintableTerm f t → AreBelow (2 ^ w) (term_literals w t)
    term_below (Term.Ret v a) is = literal_below v a is.1
    term_below (Term.Br _) is = tt
    term_below (Term.CondBr c _ _) is = literal_below 1 c is.0
    term_below (Term.Switch v on _ cases) is =
        both_below (2 ^ w) (literal_of w v on) (if nat_eq v w then map (λ (c : ℕ × BlockId). c.0) cases else []) (literal_below v on is.1)
        (cases_below v cases (recursion_from_All (λ (c : ℕ × BlockId). (c.0 < 2 ^ v) × IsBlock f c.1) cases is.3))
    term_below Term.Unreachable is = tt

    block_below : (b : Block) → PrintableBlock f b → AreBelow (2 ^ w) (block_literals f w b)
    block_below b is =
        both_below (2 ^ w) (flat_map (phi_literals w) b.phis) (flat_map (λ (i : Inst). op_literals f w i.op) b.insts ++ term_literals w b.term)
        (each_below (PrintablePhi f) (phi_literals w) (2 ^ w) phi_below b.phis (recursion_from_All (PrintablePhi f) b.phis is.phis))
        (both_below (2 ^ w) (flat_map (λ (i : Inst). op_literals f w i.op) b.insts) (term_literals w b.term)
        (each_below (PrintableInst f) (λ (i : Inst). op_literals f w i.op) (2 ^ w) (λ i ready. op_below i.op ready.op) b.insts (recursion_from_All (PrintableInst f) b.insts is.insts))
        (term_below b.term is.term))

    literals_below : AreBelow (2 ^ w) (literals f w)
    literals_below = each_below (PrintableBlock f) (block_literals f w) (2 ^ w) block_below f.blocks (recursion_from_All (PrintableBlock f) f.blocks printable.blocks)

    ends_below : IsWidth w → AreBelow (2 ^ w) (ends_of w)
    ends_below width =
        let some : 0 < 2 ^ w = pow_pos w in
        let half : 0 < 2 ^ (w - 1) = pow_pos (w - 1) in
        let least = width.least in
        let less : 2 ^ (w - 1) < 2 ^ w = pow_below (w - 1) w (omega arith) in
        (omega arith, (omega arith, (less, (omega arith, tt))))

    -- ---- what is gathered

    in_from_contained : (x : ℕ) (xs : List ℕ) → Contains xs x → is_in x xs ≡ true
    in_from_contained x [] c = let less = c.1 in absurd (omega arith)
    in_from_contained x (y ∷ xs) c = elim (contained_cases x y xs c) [
      | inl same ↦ or_left (nat_eq x y) (is_in x xs) (eq-eqb x y (sym same))
      | inr later ↦ or_right (nat_eq x y) (is_in x xs) (in_from_contained x xs later)
    ]

    contained_from_in : (x : ℕ) (xs : List ℕ) → is_in x xs ≡ true → Contains xs x
    contained_from_in x [] is = absurd (cc)
    contained_from_in x (y ∷ xs) is = elim (first_or_rest x y xs is) [
      | inl same ↦ subst (λ k. Contains (k ∷ xs) x) same (contained_first x xs)
      | inr later ↦ contained_rest x y xs (contained_from_in x xs later)
    ]

    -- rising numbers that are the literals of the width and the ends are its landmarks
    pub landmarks_are : IsWidth w → (xs : List ℕ) → IsStrictlyIncreasing xs → ((x : ℕ) → Contains (literals f w ++ ends_of w) x → Contains xs x) →
        ((x : ℕ) → Contains xs x → Contains (literals f w ++ ends_of w) x) → xs ≡ landmarks f w
    unfolding landmarks
    landmarks_are width xs rises keeps adds_none =
        filter_is (is_landmark f w) (2 ^ w) xs rises
        (λ x c. (passes x (Contains-append_cases (literals f w) (ends_of w) x (adds_none x c)), below x (adds_none x c)))
        (λ x passes _. keeps x (gathered x (or_cases (is_in x (ends_of w)) (is_in x (literals f w)) passes)))
      where
        passes : (x : ℕ) → Contains (literals f w) x ⊎ Contains (ends_of w) x → is_landmark f w x ≡ true
        passes x (inl literal) = or_right (is_in x (ends_of w)) (is_in x (literals f w)) (in_from_contained x (literals f w) literal)
        passes x (inr end) = or_left (is_in x (ends_of w)) (is_in x (literals f w)) (in_from_contained x (ends_of w) end)

        below : (x : ℕ) → Contains (literals f w ++ ends_of w) x → x < 2 ^ w
        below x c = All-contains (λ y. y < 2 ^ w) (literals f w ++ ends_of w) x
            (All-from_recursion (λ y. y < 2 ^ w) (literals f w ++ ends_of w) (both_below (2 ^ w) (literals f w) (ends_of w) literals_below (ends_below width))) c

        gathered : (x : ℕ) → (is_in x (ends_of w) ≡ true) ⊎ (is_in x (literals f w) ≡ true) → Contains (literals f w ++ ends_of w) x
        gathered x (inl end) = Contains-append_right (literals f w) (ends_of w) x (contained_from_in x (ends_of w) end)
        gathered x (inr literal) = Contains-append_left (literals f w) (ends_of w) x (contained_from_in x (literals f w) literal)
