-- What an operand becomes may be used where the operand may, and so may the operands that are put in an operation.
use Rattle.std.proofs.Common.{◌≡◌, ◌<◌, ℕ, zero, suc, ◌++◌, true, false, Option, None, List, [], ◌∷◌, IsSomeAnd, length, refl, sym, ap, ◌∙◌, subst, inl, inr, arith}
use Rattle.std.proofs.lemmas.Bool.{cases_Bool}
use Rattle.std.specs.List.{AllByRecursion}
use Rattle.vfa_ir.specs.declared.operations.Op.{Op}
use Rattle.vfa_ir.specs.declared.operations.Operand.{Operand}
use Rattle.vfa_ir.specs.declared.operations.Ty.{Ty}
use Rattle.vfa_ir.specs.declared.operations.ValueId.{ValueId}
use Rattle.vfa_ir.specs.declared.functions.Function.{Function}
use Rattle.vfa_ir.specs.declared.functions.Value.{Value}
use Rattle.vfa_ir.specs.Defined.{Defined, operand_names, op_names}
use Rattle.vfa_ir.specs.Operands.{operands_of}
use Rattle.vfa_ir.specs.Printable.{IsPrintable, IsOperand, PrintableOp, HasItsResult, op_type, call_place}
use Rattle.vfa_ir.specs.Typed.{TypedOp, IsOfType, HasType}
use Rattle.vfa_ir.specs.Words.{is_in}
use Rattle.vfa_mean.specs.FreshOperands.{IsDefinedAtPlace}
use Rattle.vfa_mean.specs.Moments.{Place, At, is_call}
use Rattle.vfa_mean.specs.Operands.{IsOperation}
use Rattle.vfa_mean.proofs.FreshOperands.Definitions.{in_first, in_cases, first_or_rest}
use Rattle.vfa_cond.specs.Conditions.{name_type}
use Rattle.vfa_walk.proofs.TruthTypes.{line_type}
use Rattle.vfa_rules.specs.declared.change.Change.{Change}
use Rattle.vfa_rewrite.specs.Findings.{Findings, IsTypedOperand, IsDefinedOperand, IsUsable, AreUsable, IsDecisionOf, ChangeFits, AreFitting}
use Rattle.vfa_rewrite.specs.Marks.{IsReplaced, Becomes, number, no_number, replaced, stays, IsPut}
use Rattle.vfa_rewrite.specs.Rewritten.{Marks, with_operands, rewritten}
use Rattle.vfa_rewrite.proofs.Becoming.{names_a, names_b}
use Rattle.vfa_rewrite.proofs.Left.{get_before}
use Rattle.vfa_rewrite.proofs.LiveOperands.{operand_is_live}
use Rattle.vfa_rewrite.proofs.Ranges.{defines_once, typed_value}

module _ (f : Function) (printable : IsPrintable f) (defined : Defined f) (found : Findings) (fits : AreFitting f found) where
  -- ---- a replaced name

  replaced_plain : (n : ℕ) (u : Operand) (r : IsReplaced f found n u) → is_call r.inst.op ≡ false
  replaced_plain n u r = elim (cases_Bool (is_call r.inst.op)) [
    | inr plain ↦ plain
    | inl call ↦ absurd (let kept = fits.call r.b r.block r.i r.inst r.line call in let uses = r.uses in cc)
  ]

  pub replaced_fits : (n : ℕ) (u : Operand) (r : IsReplaced f found n u) → ChangeFits f (At r.b r.i) r.inst.op (Change.Uses u)
  replaced_fits n u r =
      subst (λ c. ChangeFits f (At r.b r.i) r.inst.op c) r.uses (fits.change r.b r.block r.i r.inst r.line r.met (replaced_plain n u r))

  replaced_name : (n : ℕ) (u : Operand) (r : IsReplaced f found n u) (x : ℕ) → is_in x (operand_names u) ≡ true → is_in x (op_names f r.inst.op) ≡ true
  replaced_name n u r x t = elim (replaced_fits n u r).fits.0 [
    | inl e ↦ names_a f r.inst.op x (subst (λ a. is_in x (operand_names a) ≡ true) e t)
    | inr e ↦ names_b f r.inst.op x (subst (λ a. is_in x (operand_names a) ≡ true) e t)
  ]

  replaced_live : (place : Place) (n : ℕ) (u : Operand) → IsReplaced f found n u → IsDefinedAtPlace f place n → IsDefinedOperand f place u
  replaced_live place n (Operand.Value x) r live =
      operand_is_live f (defines_once f printable) defined r.b r.i r.block r.inst r.name r.line r.result x.0
      (replaced_name n (Operand.Value x) r x.0 (in_first x.0 x.0 [] refl)) place
      (subst (λ k. IsDefinedAtPlace f place k) (sym r.same) live)
  replaced_live place n (Operand.Literal x) r live = tt
  replaced_live place n Operand.Poison r live = tt

  replaced_usable : (place : Place) (ty : Ty) (n : ValueId) (u : Operand) → IsReplaced f found n.0 u → IsUsable f place ty (Operand.Value n) → IsUsable f place ty u
  replaced_usable place ty n u r usable =
      let of_line = line_type f printable r.b r.i r.block r.inst r.name r.line r.result in
      let of_name = (typed_value f ty n usable.typed).typed in
      let same : op_type r.inst.op ≡ ty = sym of_line ∙ ap (name_type f) r.same ∙ of_name in
      record {
        is_type = usable.is_type;
        typed = subst (λ t. IsTypedOperand f t u) same (replaced_fits n.0 u r).fits.1;
        defined = replaced_live place n.0 u r usable.defined;
      }

  -- ---- what an operand becomes

  pub becomes_usable : (place : Place) (ty : Ty) (a a' : Operand) → Becomes f found place ty a a' → IsUsable f place ty a → IsUsable f place ty a'
  becomes_usable place ty a a' (number b x e) usable =
      record { is_type = usable.is_type; typed = subst (λ d. IsDecisionOf ty d) e (fits.of_type place ty b usable.is_type usable.typed); defined = tt }
  becomes_usable place ty a a' (no_number b e) usable = record { is_type = usable.is_type; typed = tt; defined = tt }
  becomes_usable place ty a a' (replaced n u c e r rest) usable = becomes_usable place ty u c rest (replaced_usable place ty n u r usable)
  becomes_usable place ty a a' (stays n e apart) usable = usable

  module _ (place : Place) (put : Operand → Operand) where
    abbrev Two : ℕ → Operand → Operand → Type 0
    Two w a b = IsUsable f place (Ty.Int w) a × IsUsable f place (Ty.Int w) b

    two_put : (w : ℕ) (a b : Operand) → Two w a b → AllByRecursion (IsPut f found place put) ((Ty.Int w, a) ∷ ((Ty.Int w, b) ∷ [])) → Two w (put a) (put b)
    two_put w a b usable is = (becomes_usable place (Ty.Int w) a (put a) is.0 usable.0, becomes_usable place (Ty.Int w) b (put b) is.1.0 usable.1)

    -- the operands that are put in an operation
    pub put_usable : (op : Op) → AreUsable f place op → AllByRecursion (IsPut f found place put) (operands_of f op) → AreUsable f place (with_operands put op)
    put_usable (Op.Bin bin flags w a b) usable is = two_put w a b usable is
    put_usable (Op.Icmp pred samesign w a b) usable is = two_put w a b usable is
    put_usable (Op.Select w c a b) usable is =
        let two = two_put w a b (usable.1, usable.2) is.1 in (becomes_usable place (Ty.Int 1) c (put c) is.0 usable.0, two.0, two.1)
    put_usable (Op.Cast cast flags v w a) usable is = becomes_usable place (Ty.Int v) a (put a) is.0 usable
    put_usable (Op.Freeze w a) usable is = becomes_usable place (Ty.Int w) a (put a) is.0 usable
    put_usable (Op.Two fun w a b) usable is = two_put w a b usable is
    put_usable (Op.One fun w a strict) usable is = becomes_usable place (Ty.Int w) a (put a) is.0 usable
    put_usable (Op.Over over w a b) usable is = two_put w a b usable is
    put_usable (Op.Part w pair index) usable is = usable
    put_usable (Op.Assume c) usable is = becomes_usable place (Ty.Int 1) c (put c) is.0 usable
    put_usable (Op.Call w call) usable is = tt

-- ---- usable operands in what is left

module _ (f : Function) (m : Marks) where
  has_type_left : (ty : Ty) (v : ValueId) → HasType f ty v → HasType (rewritten f m) ty v
  has_type_left ty v h =
      let is = typed_value f ty v h in
      subst (λ o. IsSomeAnd o (λ (x : Value). x.ty ≡ ty)) (sym (get_before f.values m.added v.0 is.below)) h

  pub operand_left_typed : (ty : Ty) (a : Operand) → IsTypedOperand f ty a → IsOfType (rewritten f m) ty a
  operand_left_typed ty (Operand.Value v) h = has_type_left ty v h
  operand_left_typed ty (Operand.Literal x) h = tt
  operand_left_typed ty Operand.Poison h = tt

  more_values : (xs ys : List Value) (n : ℕ) → n < length xs → n < length (xs ++ ys)
  more_values [] ys n l = absurd (omega (arith, l))
  more_values (x ∷ xs) ys zero l = omega arith
  more_values (x ∷ xs) ys (suc n) l = let k = more_values xs ys n (omega (arith, l)) in omega (arith, k)

  pub operand_left_range : (w : ℕ) (a : Operand) → IsTypedOperand f (Ty.Int w) a → IsOperand (rewritten f m) w a
  operand_left_range w (Operand.Value v) h = more_values f.values m.added v.0 (typed_value f (Ty.Int w) v h).below
  operand_left_range w (Operand.Literal x) h = h
  operand_left_range w Operand.Poison h = tt

  module _ (place : Place) where
    type_of_operand : (ty : Ty) (a : Operand) → IsUsable f place ty a → IsOfType (rewritten f m) ty a
    type_of_operand ty a usable = operand_left_typed ty a usable.typed

    range_of_operand : (w : ℕ) (a : Operand) → IsUsable f place (Ty.Int w) a → IsOperand (rewritten f m) w a
    range_of_operand w a usable = operand_left_range w a usable.typed

    pub usable_typed : (op : Op) → IsOperation op → AreUsable f place op → TypedOp (rewritten f m) op
    usable_typed (Op.Bin bin flags w a b) is u = record { first = type_of_operand (Ty.Int w) a u.0; second = type_of_operand (Ty.Int w) b u.1 }
    usable_typed (Op.Icmp pred samesign w a b) is u = record { first = type_of_operand (Ty.Int w) a u.0; second = type_of_operand (Ty.Int w) b u.1 }
    usable_typed (Op.Select w c a b) is u = (type_of_operand (Ty.Int 1) c u.0, record { first = type_of_operand (Ty.Int w) a u.1; second = type_of_operand (Ty.Int w) b u.2 })
    usable_typed (Op.Cast cast flags v w a) is u = (type_of_operand (Ty.Int v) a u, is.2)
    usable_typed (Op.Freeze w a) is u = type_of_operand (Ty.Int w) a u
    usable_typed (Op.Two fun w a b) is u = record { first = type_of_operand (Ty.Int w) a u.0; second = type_of_operand (Ty.Int w) b u.1 }
    usable_typed (Op.One fun w a strict) is u = type_of_operand (Ty.Int w) a u
    usable_typed (Op.Over over w a b) is u = record { first = type_of_operand (Ty.Int w) a u.0; second = type_of_operand (Ty.Int w) b u.1 }
    usable_typed (Op.Part w pair index) is u = has_type_left (Ty.Pair w) pair u.typed
    usable_typed (Op.Assume c) is u = type_of_operand (Ty.Int 1) c u
    usable_typed (Op.Call w call) is u = absurd is

    -- the flags and widths are those of the operation that it was
    pub usable_printable : (put : Operand → Operand) (op : Op) → IsOperation op → PrintableOp f op → AreUsable f place (with_operands put op) →
        PrintableOp (rewritten f m) (with_operands put op)
    usable_printable put (Op.Bin bin flags w a b) is r u = (r.0, record { of_width = r.1.of_width; first = range_of_operand w (put a) u.0; second = range_of_operand w (put b) u.1 })
    usable_printable put (Op.Icmp pred samesign w a b) is r u = record { of_width = r.of_width; first = range_of_operand w (put a) u.0; second = range_of_operand w (put b) u.1 }
    usable_printable put (Op.Select w c a b) is r u =
        (range_of_operand 1 (put c) u.0, record { of_width = r.1.of_width; first = range_of_operand w (put a) u.1; second = range_of_operand w (put b) u.2 })
    usable_printable put (Op.Cast cast flags v w a) is r u = (r.0, r.1, range_of_operand v (put a) u, r.3)
    usable_printable put (Op.Freeze w a) is r u = (r.0, range_of_operand w (put a) u)
    usable_printable put (Op.Two fun w a b) is r u = record { of_width = r.of_width; first = range_of_operand w (put a) u.0; second = range_of_operand w (put b) u.1 }
    usable_printable put (Op.One fun w a strict) is r u = (r.0, range_of_operand w (put a) u, r.2)
    usable_printable put (Op.Over over w a b) is r u = record { of_width = r.of_width; first = range_of_operand w (put a) u.0; second = range_of_operand w (put b) u.1 }
    usable_printable put (Op.Part w pair index) is r u = (r.0, more_values f.values m.added pair.0 r.1, r.2)
    usable_printable put (Op.Assume c) is r u = range_of_operand 1 (put c) u
    usable_printable put (Op.Call w call) is r u = absurd is

    -- ---- names

    pub name_defined : (ty : Ty) (a : Operand) (x : ℕ) → IsUsable f place ty a → is_in x (operand_names a) ≡ true → IsDefinedAtPlace f place x
    name_defined ty (Operand.Value v) x u t = elim (first_or_rest x v.0 [] t) [ inl e ↦ subst (IsDefinedAtPlace f place) (sym e) u.defined | inr r ↦ absurd (let s : false ≡ true = r in cc) ]
    name_defined ty (Operand.Literal c) x u t = absurd (cc)
    name_defined ty Operand.Poison x u t = absurd (cc)

    two_defined : (w : ℕ) (a b : Operand) (x : ℕ) → IsUsable f place (Ty.Int w) a × IsUsable f place (Ty.Int w) b → is_in x (operand_names a ++ operand_names b) ≡ true → IsDefinedAtPlace f place x
    two_defined w a b x u t = elim (in_cases x (operand_names a) (operand_names b) t) [ inl k ↦ name_defined (Ty.Int w) a x u.0 k | inr k ↦ name_defined (Ty.Int w) b x u.1 k ]

    pub names_defined : (op : Op) (x : ℕ) → IsOperation op → AreUsable f place op → is_in x (op_names (rewritten f m) op) ≡ true → IsDefinedAtPlace f place x
    names_defined (Op.Bin bin flags w a b) x is u t = two_defined w a b x u t
    names_defined (Op.Icmp pred samesign w a b) x is u t = two_defined w a b x u t
    names_defined (Op.Select w c a b) x is u t = elim (in_cases x (operand_names c) (operand_names a ++ operand_names b) t) [
      | inl k ↦ name_defined (Ty.Int 1) c x u.0 k
      | inr k ↦ two_defined w a b x (u.1, u.2) k
    ]
    names_defined (Op.Cast cast flags v w a) x is u t = name_defined (Ty.Int v) a x u t
    names_defined (Op.Freeze w a) x is u t = name_defined (Ty.Int w) a x u t
    names_defined (Op.Two fun w a b) x is u t = two_defined w a b x u t
    names_defined (Op.One fun w a strict) x is u t = name_defined (Ty.Int w) a x u t
    names_defined (Op.Over over w a b) x is u t = two_defined w a b x u t
    names_defined (Op.Part w pair index) x is u t = name_defined (Ty.Pair w) (Operand.Value pair) x u t
    names_defined (Op.Assume c) x is u t = name_defined (Ty.Int 1) c x u t
    names_defined (Op.Call w call) x is u t = absurd is

-- ---- what other operands do not change

pub put_type : (put : Operand → Operand) (op : Op) → op_type (with_operands put op) ≡ op_type op
put_type put (Op.Bin bin flags w a b) = refl
put_type put (Op.Icmp pred samesign w a b) = refl
put_type put (Op.Select w c a b) = refl
put_type put (Op.Cast cast flags v w a) = refl
put_type put (Op.Freeze w a) = refl
put_type put (Op.Two fun w a b) = refl
put_type put (Op.One fun w a strict) = refl
put_type put (Op.Over over w a b) = refl
put_type put (Op.Part w pair index) = refl
put_type put (Op.Assume c) = refl
put_type put (Op.Call w call) = refl

pub put_operation : (put : Operand → Operand) (op : Op) → IsOperation op → IsOperation (with_operands put op)
put_operation put (Op.Bin bin flags w a b) is = is
put_operation put (Op.Icmp pred samesign w a b) is = is
put_operation put (Op.Select w c a b) is = is
put_operation put (Op.Cast cast flags v w a) is = is
put_operation put (Op.Freeze w a) is = is
put_operation put (Op.Two fun w a b) is = is
put_operation put (Op.One fun w a strict) is = is
put_operation put (Op.Over over w a b) is = is
put_operation put (Op.Part w pair index) is = is
put_operation put (Op.Assume c) is = is
put_operation put (Op.Call w call) is = is

pub put_place : (put : Operand → Operand) (op : Op) → call_place (with_operands put op) ≡ call_place op
put_place put (Op.Bin bin flags w a b) = refl
put_place put (Op.Icmp pred samesign w a b) = refl
put_place put (Op.Select w c a b) = refl
put_place put (Op.Cast cast flags v w a) = refl
put_place put (Op.Freeze w a) = refl
put_place put (Op.Two fun w a b) = refl
put_place put (Op.One fun w a strict) = refl
put_place put (Op.Over over w a b) = refl
put_place put (Op.Part w pair index) = refl
put_place put (Op.Assume c) = refl
put_place put (Op.Call w call) = refl

pub plain_place : (op : Op) → is_call op ≡ false → call_place op ≡ None
plain_place (Op.Bin bin flags w a b) e = refl
plain_place (Op.Icmp pred samesign w a b) e = refl
plain_place (Op.Select w c a b) e = refl
plain_place (Op.Cast cast flags v w a) e = refl
plain_place (Op.Freeze w a) e = refl
plain_place (Op.Two fun w a b) e = refl
plain_place (Op.One fun w a strict) e = refl
plain_place (Op.Over over w a b) e = refl
plain_place (Op.Part w pair index) e = refl
plain_place (Op.Assume c) e = refl
plain_place (Op.Call w call) e = absurd (cc)

pub put_result : (put : Operand → Operand) (op : Op) (r : Option ValueId) → HasItsResult op r → HasItsResult (with_operands put op) r
put_result put (Op.Bin bin flags w a b) r h = h
put_result put (Op.Icmp pred samesign w a b) r h = h
put_result put (Op.Select w c a b) r h = h
put_result put (Op.Cast cast flags v w a) r h = h
put_result put (Op.Freeze w a) r h = h
put_result put (Op.Two fun w a b) r h = h
put_result put (Op.One fun w a strict) r h = h
put_result put (Op.Over over w a b) r h = h
put_result put (Op.Part w pair index) r h = h
put_result put (Op.Assume c) r h = h
put_result put (Op.Call w call) r h = h
