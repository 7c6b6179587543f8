-- One operation of a function and of the narrowed one: its results agree on what is asked of them.
use Rattle.std.proofs.Common.{◌≡◌, ℕ, ◌-◌, ◌*◌, ◌^◌, ◌<◌, ◌≤◌, Bool, true, false, ◌||◌, List, [], ◌∷◌, ◌++◌, length, refl, sym, ◌∙◌, ap, subst, subst₂, arith, inl, inr, ◌⊎◌}
use Rattle.std.specs.Prelude.{nat_eq, if◌then◌else◌, not}
use Rattle.std.specs.List.{list_any}
use Rattle.std.proofs.lemmas.Bool.{eqb-true, ltb-true}
use Rattle.vfa_ir.specs.declared.operations.Cast.{Cast}
use Rattle.vfa_ir.specs.declared.operations.Op.{Op}
use Rattle.vfa_ir.specs.declared.operations.Operand.{Operand}
use Rattle.vfa_ir.specs.declared.operations.Ty.{Ty}
use Rattle.vfa_ir.specs.declared.operations.ValueId.{ValueId}
use Rattle.vfa_ir.specs.declared.functions.Function.{Function}
use Rattle.vfa_ir.specs.Defined.{op_names, operand_names}
use Rattle.vfa_ir.specs.Operands.{operands_of, without_flags}
use Rattle.vfa_ir.specs.Printable.{PrintableOp, op_type}
use Rattle.vfa_ir.specs.Typed.{TypedOp}
use Rattle.vfa_ir.specs.Walks.{is_in}
use Rattle.vfa_ir.specs.Grammar
use Rattle.vfa_word.specs.Numbers.{IsWidth}
use Rattle.vfa_word.proofs.Readings.{twice}
use Rattle.std.proofs.lemmas.Nat.{pow_pos}
use Rattle.std.specs.Int.Bits.{and_zero_r}
use Rattle.vfa_mean.specs.declared.value.Done.{Done}
use Rattle.vfa_mean.specs.declared.value.Val.{Val}
use Rattle.vfa_mean.specs.Values.{Env, AllowsValue, IsValueOf, operand_value}
use Rattle.vfa_mean.specs.Meaning.{Result, Undefined, Gave, Gives, Allowed, done, operand_a, operand_b, operand_c}
use Rattle.vfa_mean.specs.Operands.{IsOperation, AreValuesFor}
use Rattle.vfa_mean.specs.Laws.{AllowsResult, AllowsDone}
use Rattle.vfa_mean.specs.FreshOperands.{IsDefinedAtPlace}
use Rattle.vfa_mean.specs.Moments.{Place, is_call}
use Rattle.vfa_mean.proofs.Monotony.{done_monotone}
use Rattle.vfa_mean.proofs.Results.{some_result}
use Rattle.vfa_mean.proofs.Typing.{done_typed}
use Rattle.vfa_mean.proofs.FreshOperands.Definitions.{in_first, in_rest, first_or_rest, in_left, in_right}
use Rattle.vfa_demand.specs.Masks.{IsPartOf, Have, ask_of, operand_asks}
use Rattle.vfa_demand.specs.Rows.{all_bits, needs_all, asked, is_division, of_operand}
use Rattle.vfa_bits.specs.Standing.{standing}
use Rattle.vfa_bits.specs.Changed.{has_unseen_sign}
use Rattle.vfa_bits.specs.Narrowed.{with_operands, with_zeros, narrowed_cast, lost_flags}
use Rattle.vfa_bits.proofs.Agreeing.{AgreesOn, allows_agrees, agrees_part, whole_allows, AgreesDone, AgreesResult, done_trans, flags_allowed}
use Rattle.vfa_bits.proofs.AskedBits.{name_asked, have_right}
use Rattle.vfa_bits.proofs.Chains.{Known, standing_agrees, standing_typed, standing_allows}
use Rattle.vfa_bits.proofs.Operations.{IsRead, OperandsAgree, is_partial, partial_agrees, asked_part, IsAsked, whole_asked, whole_allowed, gives_value, unseen_agrees}
use Rattle.vfa_bits.proofs.Related.{Tied, Fits, Related, ForName, for_name, IsTypedOperand, name_fits, operand_fits}

-- ---- the operation as it is written anew

-- it is the same but for flags and the kind of a cast
pub record SameShape (f : Function) (op op' : Op) : Type 1 where
  pub put_a : (put : Operand → Operand) → operand_a (with_operands put op') ≡ operand_a (with_operands put op)
  pub put_b : (put : Operand → Operand) → operand_b (with_operands put op') ≡ operand_b (with_operands put op)
  pub put_c : (put : Operand → Operand) → operand_c (with_operands put op') ≡ operand_c (with_operands put op)
  pub names : (put : Operand → Operand) → op_names f (with_operands put op') ≡ op_names f (with_operands put op)
  pub operation : IsOperation op → IsOperation op'
  pub values : (a b c : Val) → AreValuesFor op a b c → AreValuesFor op' a b c
  pub ty : op_type op' ≡ op_type op
  pub needs : needs_all op' ≡ needs_all op
  pub call : is_call op' ≡ is_call op

without_shape : (f : Function) (op : Op) → SameShape f op (without_flags op)
without_shape f (Op.Bin bin flags w a b) = record { put_a = λ put. refl; put_b = λ put. refl; put_c = λ put. refl; names = λ put. refl; operation = λ o. o; values = λ a b c h. h; ty = refl; needs = refl; call = refl }
without_shape f (Op.Icmp pred samesign w a b) = record { put_a = λ put. refl; put_b = λ put. refl; put_c = λ put. refl; names = λ put. refl; operation = λ o. o; values = λ a b c h. h; ty = refl; needs = refl; call = refl }
without_shape f (Op.Select w c a b) = record { put_a = λ put. refl; put_b = λ put. refl; put_c = λ put. refl; names = λ put. refl; operation = λ o. o; values = λ a b c h. h; ty = refl; needs = refl; call = refl }
without_shape f (Op.Cast cast flags v w a) = record { put_a = λ put. refl; put_b = λ put. refl; put_c = λ put. refl; names = λ put. refl; operation = λ o. o; values = λ a b c h. h; ty = refl; needs = refl; call = refl }
without_shape f (Op.Freeze w a) = record { put_a = λ put. refl; put_b = λ put. refl; put_c = λ put. refl; names = λ put. refl; operation = λ o. o; values = λ a b c h. h; ty = refl; needs = refl; call = refl }
without_shape f (Op.Two fun w a b) = record { put_a = λ put. refl; put_b = λ put. refl; put_c = λ put. refl; names = λ put. refl; operation = λ o. o; values = λ a b c h. h; ty = refl; needs = refl; call = refl }
without_shape f (Op.One fun w a strict) = record { put_a = λ put. refl; put_b = λ put. refl; put_c = λ put. refl; names = λ put. refl; operation = λ o. o; values = λ a b c h. h; ty = refl; needs = refl; call = refl }
without_shape f (Op.Over over w a b) = record { put_a = λ put. refl; put_b = λ put. refl; put_c = λ put. refl; names = λ put. refl; operation = λ o. o; values = λ a b c h. h; ty = refl; needs = refl; call = refl }
without_shape f (Op.Part w pair index) = record { put_a = λ put. refl; put_b = λ put. refl; put_c = λ put. refl; names = λ put. refl; operation = λ o. o; values = λ a b c h. h; ty = refl; needs = refl; call = refl }
without_shape f (Op.Assume c) = record { put_a = λ put. refl; put_b = λ put. refl; put_c = λ put. refl; names = λ put. refl; operation = λ o. o; values = λ a b c h. h; ty = refl; needs = refl; call = refl }
without_shape f (Op.Call width place) = record { put_a = λ put. refl; put_b = λ put. refl; put_c = λ put. refl; names = λ put. refl; operation = λ o. o; values = λ a b c h. h; ty = refl; needs = refl; call = refl }

zeros_shape : (f : Function) (op : Op) → SameShape f op (with_zeros op)
zeros_shape f (Op.Bin bin flags w a b) = record { put_a = λ put. refl; put_b = λ put. refl; put_c = λ put. refl; names = λ put. refl; operation = λ o. o; values = λ a b c h. h; ty = refl; needs = refl; call = refl }
zeros_shape f (Op.Icmp pred samesign w a b) = record { put_a = λ put. refl; put_b = λ put. refl; put_c = λ put. refl; names = λ put. refl; operation = λ o. o; values = λ a b c h. h; ty = refl; needs = refl; call = refl }
zeros_shape f (Op.Select w c a b) = record { put_a = λ put. refl; put_b = λ put. refl; put_c = λ put. refl; names = λ put. refl; operation = λ o. o; values = λ a b c h. h; ty = refl; needs = refl; call = refl }
zeros_shape f (Op.Cast Cast.Zext flags v w a) = record { put_a = λ put. refl; put_b = λ put. refl; put_c = λ put. refl; names = λ put. refl; operation = λ o. o; values = λ a b c h. h; ty = refl; needs = refl; call = refl }
zeros_shape f (Op.Cast Cast.Sext flags v w a) = record { put_a = λ put. refl; put_b = λ put. refl; put_c = λ put. refl; names = λ put. refl; operation = λ o. o; values = λ a b c h. h; ty = refl; needs = refl; call = refl }
zeros_shape f (Op.Cast Cast.Trunc flags v w a) = record { put_a = λ put. refl; put_b = λ put. refl; put_c = λ put. refl; names = λ put. refl; operation = λ o. o; values = λ a b c h. h; ty = refl; needs = refl; call = refl }
zeros_shape f (Op.Freeze w a) = record { put_a = λ put. refl; put_b = λ put. refl; put_c = λ put. refl; names = λ put. refl; operation = λ o. o; values = λ a b c h. h; ty = refl; needs = refl; call = refl }
zeros_shape f (Op.Two fun w a b) = record { put_a = λ put. refl; put_b = λ put. refl; put_c = λ put. refl; names = λ put. refl; operation = λ o. o; values = λ a b c h. h; ty = refl; needs = refl; call = refl }
zeros_shape f (Op.One fun w a strict) = record { put_a = λ put. refl; put_b = λ put. refl; put_c = λ put. refl; names = λ put. refl; operation = λ o. o; values = λ a b c h. h; ty = refl; needs = refl; call = refl }
zeros_shape f (Op.Over over w a b) = record { put_a = λ put. refl; put_b = λ put. refl; put_c = λ put. refl; names = λ put. refl; operation = λ o. o; values = λ a b c h. h; ty = refl; needs = refl; call = refl }
zeros_shape f (Op.Part w pair index) = record { put_a = λ put. refl; put_b = λ put. refl; put_c = λ put. refl; names = λ put. refl; operation = λ o. o; values = λ a b c h. h; ty = refl; needs = refl; call = refl }
zeros_shape f (Op.Assume c) = record { put_a = λ put. refl; put_b = λ put. refl; put_c = λ put. refl; names = λ put. refl; operation = λ o. o; values = λ a b c h. h; ty = refl; needs = refl; call = refl }
zeros_shape f (Op.Call width place) = record { put_a = λ put. refl; put_b = λ put. refl; put_c = λ put. refl; names = λ put. refl; operation = λ o. o; values = λ a b c h. h; ty = refl; needs = refl; call = refl }

same_shape : (f : Function) (op : Op) → SameShape f op op
same_shape f op = record { put_a = λ put. refl; put_b = λ put. refl; put_c = λ put. refl; names = λ put. refl; operation = λ o. o; values = λ a b c h. h; ty = refl; needs = refl; call = refl }

shape_trans : (f : Function) (op op' op'' : Op) → SameShape f op op' → SameShape f op' op'' → SameShape f op op''
shape_trans f op op' op'' p q = record {
  put_a = λ put. q.put_a put ∙ p.put_a put;
  put_b = λ put. q.put_b put ∙ p.put_b put;
  put_c = λ put. q.put_c put ∙ p.put_c put;
  names = λ put. q.names put ∙ p.names put;
  operation = λ o. q.operation (p.operation o);
  values = λ a b c h. q.values a b c (p.values a b c h);
  ty = q.ty ∙ p.ty;
  needs = q.needs ∙ p.needs;
  call = q.call ∙ p.call;
}

lost_shape : (f : Function) (t : Bool) (op : Op) → SameShape f op (lost_flags t op)
lost_shape f true op = without_shape f op
lost_shape f false op = same_shape f op

cast_shape : (f : Function) (op : Op) (d : ℕ) → SameShape f op (narrowed_cast op d)
cast_shape f op d = by (has_unseen_sign op d)
  where
    by : (t : Bool) → SameShape f op (if t then with_zeros op else op)
    by true = zeros_shape f op
    by false = same_shape f op

pub new_shape : (f : Function) (t : Bool) (op : Op) (d : ℕ) → SameShape f op (lost_flags t (narrowed_cast op d))
new_shape f t op d = shape_trans f op (narrowed_cast op d) _ (cast_shape f op d) (lost_shape f t (narrowed_cast op d))

-- what it gives does not look at how its operands are written
gives_done : (op : Op) (put : Operand → Operand) (env : Env) (r : Result) → Gives (with_operands put op) env r →
    Allowed (done op (operand_value env (operand_a (with_operands put op))) (operand_value env (operand_b (with_operands put op)))
    (operand_value env (operand_c (with_operands put op)))) r
unfolding done
gives_done (Op.Bin bin flags w a b) put env r h = h
gives_done (Op.Icmp pred samesign w a b) put env r h = h
gives_done (Op.Select w c a b) put env r h = h
gives_done (Op.Cast cast flags v w a) put env r h = h
gives_done (Op.Freeze w a) put env r h = h
gives_done (Op.Two fun w a b) put env r h = h
gives_done (Op.One fun w a strict) put env r h = h
gives_done (Op.Over over w a b) put env r h = h
gives_done (Op.Part w pair index) put env r h = h
gives_done (Op.Assume c) put env r h = h
gives_done (Op.Call width place) put env r h = h

names_a : (f : Function) (op : Op) (x : ℕ) → is_in x (operand_names (operand_a op)) ≡ true → is_in x (op_names f op) ≡ true
names_a f (Op.Bin bin flags w a b) x h = in_left x (operand_names a) (operand_names b) h
names_a f (Op.Icmp pred samesign w a b) x h = in_left x (operand_names a) (operand_names b) h
names_a f (Op.Select w c a b) x h = in_right x (operand_names c) (operand_names a ++ operand_names b) (in_left x (operand_names a) (operand_names b) h)
names_a f (Op.Cast cast flags v w a) x h = h
names_a f (Op.Freeze w a) x h = h
names_a f (Op.Two fun w a b) x h = in_left x (operand_names a) (operand_names b) h
names_a f (Op.One fun w a strict) x h = h
names_a f (Op.Over over w a b) x h = in_left x (operand_names a) (operand_names b) h
names_a f (Op.Part w pair index) x h = absurd (cc)
names_a f (Op.Assume c) x h = absurd (cc)
names_a f (Op.Call width place) x h = absurd (cc)

names_b : (f : Function) (op : Op) (x : ℕ) → is_in x (operand_names (operand_b op)) ≡ true → is_in x (op_names f op) ≡ true
names_b f (Op.Bin bin flags w a b) x h = in_right x (operand_names a) (operand_names b) h
names_b f (Op.Icmp pred samesign w a b) x h = in_right x (operand_names a) (operand_names b) h
names_b f (Op.Select w c a b) x h = in_right x (operand_names c) (operand_names a ++ operand_names b) (in_right x (operand_names a) (operand_names b) h)
names_b f (Op.Cast cast flags v w a) x h = absurd (cc)
names_b f (Op.Freeze w a) x h = absurd (cc)
names_b f (Op.Two fun w a b) x h = in_right x (operand_names a) (operand_names b) h
names_b f (Op.One fun w a strict) x h = absurd (cc)
names_b f (Op.Over over w a b) x h = in_right x (operand_names a) (operand_names b) h
names_b f (Op.Part w pair index) x h = absurd (cc)
names_b f (Op.Assume c) x h = absurd (cc)
names_b f (Op.Call width place) x h = absurd (cc)

names_c : (f : Function) (op : Op) (x : ℕ) → is_in x (operand_names (operand_c op)) ≡ true → is_in x (op_names f op) ≡ true
names_c f (Op.Bin bin flags w a b) x h = absurd (cc)
names_c f (Op.Icmp pred samesign w a b) x h = absurd (cc)
names_c f (Op.Select w c a b) x h = in_left x (operand_names c) (operand_names a ++ operand_names b) h
names_c f (Op.Cast cast flags v w a) x h = absurd (cc)
names_c f (Op.Freeze w a) x h = absurd (cc)
names_c f (Op.Two fun w a b) x h = absurd (cc)
names_c f (Op.One fun w a strict) x h = absurd (cc)
names_c f (Op.Over over w a b) x h = absurd (cc)
names_c f (Op.Part w pair index) x h = h
names_c f (Op.Assume c) x h = h
names_c f (Op.Call width place) x h = absurd (cc)

-- ---- names among others

none_in : (p : ℕ → Bool) (xs : List ℕ) (x : ℕ) → list_any p xs ≡ false → is_in x xs ≡ true → p x ≡ false
none_in p [] x e h = absurd (cc)
none_in p (y ∷ xs) x e h = by (p y) refl e (none_in p xs x)
  where
    by : (t : Bool) → p y ≡ t → (t || list_any p xs) ≡ false → (list_any p xs ≡ false → is_in x xs ≡ true → p x ≡ false) → p x ≡ false
    by true k e again = absurd (cc)
    by false k e again = elim (first_or_rest x y xs h) [ inl same ↦ ap p same ∙ k | inr rest ↦ again e rest ]

pub some_in : (p : ℕ → Bool) (xs : List ℕ) → list_any p xs ≡ true → (x : ℕ) × (is_in x xs ≡ true) × (p x ≡ true)
some_in p [] e = absurd (cc)
some_in p (y ∷ xs) e = by (p y) refl e (some_in p xs)
  where
    by : (t : Bool) → p y ≡ t → (t || list_any p xs) ≡ true → (list_any p xs ≡ true → (x : ℕ) × (is_in x xs ≡ true) × (p x ≡ true)) →
        (x : ℕ) × (is_in x (y ∷ xs) ≡ true) × (p x ≡ true)
    by true k e again = (y, in_first y y xs refl, k)
    by false k e again = let r = again e in (r.0, in_rest r.0 y xs r.1, r.2)

-- ---- the values of the operands

width_of : (w : ℕ) → Grammar.IsWidth w → IsWidth w
width_of w h = record { least = h.least; most = h.most }

pub is_operation : (f : Function) (op : Op) → is_call op ≡ false → TypedOp f op → PrintableOp f op → IsOperation op
is_operation f (Op.Bin bin flags w a b) plain typed printable = width_of w printable.1.of_width
is_operation f (Op.Icmp pred samesign w a b) plain typed printable = width_of w printable.of_width
is_operation f (Op.Select w c a b) plain typed printable = width_of w printable.1.of_width
is_operation f (Op.Cast cast flags v w a) plain typed printable = (width_of v printable.1, width_of w printable.3, typed.1)
is_operation f (Op.Freeze w a) plain typed printable = width_of w printable.0
is_operation f (Op.Two fun w a b) plain typed printable = width_of w printable.of_width
is_operation f (Op.One fun w a strict) plain typed printable = width_of w printable.0
is_operation f (Op.Over over w a b) plain typed printable = width_of w printable.of_width
is_operation f (Op.Part w pair index) plain typed printable = (width_of w printable.0, printable.2)
is_operation f (Op.Assume c) plain typed printable = tt
is_operation f (Op.Call width place) plain typed printable = absurd (cc)

module _ (f : Function) (masks : ℕ → ℕ) (changed used : ℕ → Bool) (known : Known f masks changed) where
  abbrev put : Operand → Operand
  put o = standing f masks (length f.values) o

  pub values_fit : (op : Op) (env : Env) → Fits f env → TypedOp f op → PrintableOp f op →
      AreValuesFor op (operand_value env (operand_a op)) (operand_value env (operand_b op)) (operand_value env (operand_c op))
  values_fit (Op.Bin bin flags w a b) env fits typed printable = record {
    first = operand_fits f env w a fits (record { ty = typed.first; range = printable.1.first });
    second = operand_fits f env w b fits (record { ty = typed.second; range = printable.1.second });
  }
  values_fit (Op.Icmp pred samesign w a b) env fits typed printable = record {
    first = operand_fits f env w a fits (record { ty = typed.first; range = printable.first });
    second = operand_fits f env w b fits (record { ty = typed.second; range = printable.second });
  }
  values_fit (Op.Select w c a b) env fits typed printable = (
    record {
      first = operand_fits f env w a fits (record { ty = typed.1.first; range = printable.1.first });
      second = operand_fits f env w b fits (record { ty = typed.1.second; range = printable.1.second });
    },
    operand_fits f env 1 c fits (record { ty = typed.0; range = printable.0 }),
  )
  values_fit (Op.Cast cast flags v w a) env fits typed printable = operand_fits f env v a fits (record { ty = typed.0; range = printable.2 })
  values_fit (Op.Freeze w a) env fits typed printable = operand_fits f env w a fits (record { ty = typed; range = printable.1 })
  values_fit (Op.Two fun w a b) env fits typed printable = record {
    first = operand_fits f env w a fits (record { ty = typed.first; range = printable.first });
    second = operand_fits f env w b fits (record { ty = typed.second; range = printable.second });
  }
  values_fit (Op.One fun w a strict) env fits typed printable = operand_fits f env w a fits (record { ty = typed; range = printable.1 })
  values_fit (Op.Over over w a b) env fits typed printable = record {
    first = operand_fits f env w a fits (record { ty = typed.first; range = printable.first });
    second = operand_fits f env w b fits (record { ty = typed.second; range = printable.second });
  }
  values_fit (Op.Part w pair index) env fits typed printable = name_fits f env (Ty.Pair w) pair fits typed
  values_fit (Op.Assume c) env fits typed printable = operand_fits f env 1 c fits (record { ty = typed; range = printable })
  values_fit (Op.Call width place) env fits typed printable = tt

  pub new_values : (op : Op) (env' : Env) → Fits f env' → TypedOp f op → PrintableOp f op →
      AreValuesFor op (operand_value env' (operand_a (with_operands (standing f masks (length f.values)) op)))
      (operand_value env' (operand_b (with_operands (standing f masks (length f.values)) op)))
      (operand_value env' (operand_c (with_operands (standing f masks (length f.values)) op)))
  new_values (Op.Bin bin flags w a b) env' fits' typed printable = record {
    first = operand_fits f env' w (put a) fits' (standing_typed f masks changed used known (length f.values) w a (record { ty = typed.first; range = printable.1.first }));
    second = operand_fits f env' w (put b) fits' (standing_typed f masks changed used known (length f.values) w b (record { ty = typed.second; range = printable.1.second }));
  }
  new_values (Op.Icmp pred samesign w a b) env' fits' typed printable = record {
    first = operand_fits f env' w (put a) fits' (standing_typed f masks changed used known (length f.values) w a (record { ty = typed.first; range = printable.first }));
    second = operand_fits f env' w (put b) fits' (standing_typed f masks changed used known (length f.values) w b (record { ty = typed.second; range = printable.second }));
  }
  new_values (Op.Select w c a b) env' fits' typed printable = (
    record {
      first = operand_fits f env' w (put a) fits' (standing_typed f masks changed used known (length f.values) w a (record { ty = typed.1.first; range = printable.1.first }));
      second = operand_fits f env' w (put b) fits' (standing_typed f masks changed used known (length f.values) w b (record { ty = typed.1.second; range = printable.1.second }));
    },
    operand_fits f env' 1 (put c) fits' (standing_typed f masks changed used known (length f.values) 1 c (record { ty = typed.0; range = printable.0 })),
  )
  new_values (Op.Cast cast flags v w a) env' fits' typed printable = operand_fits f env' v (put a) fits' (standing_typed f masks changed used known (length f.values) v a (record { ty = typed.0; range = printable.2 }))
  new_values (Op.Freeze w a) env' fits' typed printable = operand_fits f env' w (put a) fits' (standing_typed f masks changed used known (length f.values) w a (record { ty = typed; range = printable.1 }))
  new_values (Op.Two fun w a b) env' fits' typed printable = record {
    first = operand_fits f env' w (put a) fits' (standing_typed f masks changed used known (length f.values) w a (record { ty = typed.first; range = printable.first }));
    second = operand_fits f env' w (put b) fits' (standing_typed f masks changed used known (length f.values) w b (record { ty = typed.second; range = printable.second }));
  }
  new_values (Op.One fun w a strict) env' fits' typed printable = operand_fits f env' w (put a) fits' (standing_typed f masks changed used known (length f.values) w a (record { ty = typed; range = printable.1 }))
  new_values (Op.Over over w a b) env' fits' typed printable = record {
    first = operand_fits f env' w (put a) fits' (standing_typed f masks changed used known (length f.values) w a (record { ty = typed.first; range = printable.first }));
    second = operand_fits f env' w (put b) fits' (standing_typed f masks changed used known (length f.values) w b (record { ty = typed.second; range = printable.second }));
  }
  new_values (Op.Part w pair index) env' fits' typed printable = name_fits f env' (Ty.Pair w) pair fits' typed
  new_values (Op.Assume c) env' fits' typed printable = operand_fits f env' 1 (put c) fits' (standing_typed f masks changed used known (length f.values) 1 c (record { ty = typed; range = printable }))
  new_values (Op.Call width place) env' fits' typed printable = tt

  -- ---- what is known at a place of the operands of an operation, of whose result d is asked

  pub record AtOperation (place : Place) (env env' : Env) (op : Op) (d : ℕ) : Type 0 where
    pub rel : Related f masks changed used place env env'
    pub typed : TypedOp f op
    pub printable : PrintableOp f op
    pub asks : Have (operand_asks op d 0 (operands_of f op)) masks
    pub live : (x : ℕ) → is_in x (op_names f op) ≡ true → IsDefinedAtPlace f place x
    pub is_done : (x : ℕ) → is_in x (op_names f (with_operands (standing f masks (length f.values)) op)) ≡ true → used x ≡ true

  module _ (place : Place) (env env' : Env) (op : Op) (d : ℕ) (k : AtOperation place env env' op d) where
    agrees_at : (w q : ℕ) (o : Operand) → IsTypedOperand f w o → ((x : ℕ) → is_in x (operand_names o) ≡ true → is_in x (op_names f op) ≡ true) →
        ((x : ℕ) → is_in x (operand_names (standing f masks (length f.values) o)) ≡ true → is_in x (op_names f (with_operands (standing f masks (length f.values)) op)) ≡ true) →
        ForName (λ v. IsPartOf q (masks v)) o → AgreesOn q (operand_value env o) (operand_value env' (standing f masks (length f.values) o))
    agrees_at w q o typed within within' asked =
        standing_agrees f masks changed used known place env env' k.rel (length f.values) w q o typed
        (for_name (λ x. IsDefinedAtPlace f place x) o (λ x h. k.live x (within x h))) asked (λ x h. k.is_done x (within' x h))

    allows_at : (w : ℕ) (o : Operand) → IsTypedOperand f w o → ((x : ℕ) → is_in x (operand_names o) ≡ true → is_in x (op_names f op) ≡ true) →
        ((x : ℕ) → is_in x (operand_names (standing f masks (length f.values) o)) ≡ true → is_in x (op_names f (with_operands (standing f masks (length f.values)) op)) ≡ true) →
        list_any changed (op_names f op) ≡ false → AllowsValue (operand_value env o) (operand_value env' (standing f masks (length f.values) o))
    allows_at w o typed within within' same =
        standing_allows f masks changed used known place env env' (length f.values) w o k.rel typed
        (for_name (λ x. IsDefinedAtPlace f place x) o (λ x h. k.live x (within x h)))
        (for_name (λ x. changed x ≡ false) o (λ x h. none_in changed (op_names f op) x same (within x h)))
        (λ x h. k.is_done x (within' x h))

  abbrev new_a : Env → Op → Val
  new_a env' op = operand_value env' (operand_a (with_operands (standing f masks (length f.values)) op))

  abbrev new_b : Env → Op → Val
  new_b env' op = operand_value env' (operand_b (with_operands (standing f masks (length f.values)) op))

  abbrev new_c : Env → Op → Val
  new_c env' op = operand_value env' (operand_c (with_operands (standing f masks (length f.values)) op))

  abbrev old_a : Env → Op → Val
  old_a env op = operand_value env (operand_a op)

  abbrev old_b : Env → Op → Val
  old_b env op = operand_value env (operand_b op)

  abbrev old_c : Env → Op → Val
  old_c env op = operand_value env (operand_c op)

  some_pair : (w d p : ℕ) (pair : ValueId) → 1 ≤ w → IsPartOf p (masks pair.0) → p ≡ all_bits w → nat_eq (masks pair.0) 0 ≡ false
  some_pair w d p pair least part whole = by (nat_eq (masks pair.0) 0) refl
    where
      by : (t : Bool) → nat_eq (masks pair.0) 0 ≡ t → t ≡ false
      by false e = refl
      by true e =
          let none : IsPartOf p 0 = subst (IsPartOf p) (eqb-true (masks pair.0) 0 e) part in
          let zero_is : p ≡ 0 = sym none ∙ and_zero_r p in
          let two : 2 ^ w ≡ 2 * 2 ^ (w - 1) = twice w least in
          let positive = pow_pos (w - 1) in
          absurd (omega arith)

  pub operands_agree : (place : Place) (env env' : Env) (op : Op) (d : ℕ) → AtOperation place env env' op d → is_call op ≡ false → (needs_all op ≡ false → nat_eq d 0 ≡ false) →
      OperandsAgree op d (old_a env op) (old_b env op) (old_c env op) (new_a env' op) (new_b env' op) (new_c env' op)
  unfolding of_operand
  operands_agree place env env' (Op.Bin bin flags w a b) d k plain some = record {
    first = agrees_at place env env' (Op.Bin bin flags w a b) d k w (asked (Op.Bin bin flags w a b) w 0 d) a (record { ty = k.typed.first; range = k.printable.1.first }) (names_a f (Op.Bin bin flags w a b)) (names_a f (with_operands (standing f masks (length f.values)) (Op.Bin bin flags w a b))) (name_asked masks (asked (Op.Bin bin flags w a b) w 0 d) a _ k.asks);
    second = agrees_at place env env' (Op.Bin bin flags w a b) d k w (asked (Op.Bin bin flags w a b) w 1 d) b (record { ty = k.typed.second; range = k.printable.1.second }) (names_b f (Op.Bin bin flags w a b)) (names_b f (with_operands (standing f masks (length f.values)) (Op.Bin bin flags w a b))) (name_asked masks (asked (Op.Bin bin flags w a b) w 1 d) b _ (have_right masks (ask_of (asked (Op.Bin bin flags w a b) w 0 d) a) _ k.asks));
  }
  operands_agree place env env' (Op.Icmp pred samesign w a b) d k plain some = record {
    first = agrees_at place env env' (Op.Icmp pred samesign w a b) d k w (asked (Op.Icmp pred samesign w a b) w 0 d) a (record { ty = k.typed.first; range = k.printable.first }) (names_a f (Op.Icmp pred samesign w a b)) (names_a f (with_operands (standing f masks (length f.values)) (Op.Icmp pred samesign w a b))) (name_asked masks (asked (Op.Icmp pred samesign w a b) w 0 d) a _ k.asks);
    second = agrees_at place env env' (Op.Icmp pred samesign w a b) d k w (asked (Op.Icmp pred samesign w a b) w 1 d) b (record { ty = k.typed.second; range = k.printable.second }) (names_b f (Op.Icmp pred samesign w a b)) (names_b f (with_operands (standing f masks (length f.values)) (Op.Icmp pred samesign w a b))) (name_asked masks (asked (Op.Icmp pred samesign w a b) w 1 d) b _ (have_right masks (ask_of (asked (Op.Icmp pred samesign w a b) w 0 d) a) _ k.asks));
  }
  operands_agree place env env' (Op.Select w c a b) d k plain some = (
    agrees_at place env env' (Op.Select w c a b) d k 1 (asked (Op.Select w c a b) 1 0 d) c (record { ty = k.typed.0; range = k.printable.0 }) (names_c f (Op.Select w c a b)) (names_c f (with_operands (standing f masks (length f.values)) (Op.Select w c a b))) (name_asked masks (asked (Op.Select w c a b) 1 0 d) c _ k.asks),
    record {
      first = agrees_at place env env' (Op.Select w c a b) d k w (asked (Op.Select w c a b) w 1 d) a (record { ty = k.typed.1.first; range = k.printable.1.first }) (names_a f (Op.Select w c a b)) (names_a f (with_operands (standing f masks (length f.values)) (Op.Select w c a b))) (name_asked masks (asked (Op.Select w c a b) w 1 d) a _ (have_right masks (ask_of (asked (Op.Select w c a b) 1 0 d) c) _ k.asks));
      second = agrees_at place env env' (Op.Select w c a b) d k w (asked (Op.Select w c a b) w 2 d) b (record { ty = k.typed.1.second; range = k.printable.1.second }) (names_b f (Op.Select w c a b)) (names_b f (with_operands (standing f masks (length f.values)) (Op.Select w c a b))) (name_asked masks (asked (Op.Select w c a b) w 2 d) b _ (have_right masks (ask_of (asked (Op.Select w c a b) w 1 d) a) _ (have_right masks (ask_of (asked (Op.Select w c a b) 1 0 d) c) _ k.asks)));
    },
  )
  operands_agree place env env' (Op.Cast cast flags v w a) d k plain some = agrees_at place env env' (Op.Cast cast flags v w a) d k v (asked (Op.Cast cast flags v w a) v 0 d) a (record { ty = k.typed.0; range = k.printable.2 }) (names_a f (Op.Cast cast flags v w a)) (names_a f (with_operands (standing f masks (length f.values)) (Op.Cast cast flags v w a))) (name_asked masks (asked (Op.Cast cast flags v w a) v 0 d) a _ k.asks)
  operands_agree place env env' (Op.Freeze w a) d k plain some = agrees_at place env env' (Op.Freeze w a) d k w (asked (Op.Freeze w a) w 0 d) a (record { ty = k.typed; range = k.printable.1 }) (names_a f (Op.Freeze w a)) (names_a f (with_operands (standing f masks (length f.values)) (Op.Freeze w a))) (name_asked masks (asked (Op.Freeze w a) w 0 d) a _ k.asks)
  operands_agree place env env' (Op.Two fun w a b) d k plain some = record {
    first = agrees_at place env env' (Op.Two fun w a b) d k w (asked (Op.Two fun w a b) w 0 d) a (record { ty = k.typed.first; range = k.printable.first }) (names_a f (Op.Two fun w a b)) (names_a f (with_operands (standing f masks (length f.values)) (Op.Two fun w a b))) (name_asked masks (asked (Op.Two fun w a b) w 0 d) a _ k.asks);
    second = agrees_at place env env' (Op.Two fun w a b) d k w (asked (Op.Two fun w a b) w 1 d) b (record { ty = k.typed.second; range = k.printable.second }) (names_b f (Op.Two fun w a b)) (names_b f (with_operands (standing f masks (length f.values)) (Op.Two fun w a b))) (name_asked masks (asked (Op.Two fun w a b) w 1 d) b _ (have_right masks (ask_of (asked (Op.Two fun w a b) w 0 d) a) _ k.asks));
  }
  operands_agree place env env' (Op.One fun w a strict) d k plain some = agrees_at place env env' (Op.One fun w a strict) d k w (asked (Op.One fun w a strict) w 0 d) a (record { ty = k.typed; range = k.printable.1 }) (names_a f (Op.One fun w a strict)) (names_a f (with_operands (standing f masks (length f.values)) (Op.One fun w a strict))) (name_asked masks (asked (Op.One fun w a strict) w 0 d) a _ k.asks)
  operands_agree place env env' (Op.Over over w a b) d k plain some = record {
    first = agrees_at place env env' (Op.Over over w a b) d k w (asked (Op.Over over w a b) w 0 d) a (record { ty = k.typed.first; range = k.printable.first }) (names_a f (Op.Over over w a b)) (names_a f (with_operands (standing f masks (length f.values)) (Op.Over over w a b))) (name_asked masks (asked (Op.Over over w a b) w 0 d) a _ k.asks);
    second = agrees_at place env env' (Op.Over over w a b) d k w (asked (Op.Over over w a b) w 1 d) b (record { ty = k.typed.second; range = k.printable.second }) (names_b f (Op.Over over w a b)) (names_b f (with_operands (standing f masks (length f.values)) (Op.Over over w a b))) (name_asked masks (asked (Op.Over over w a b) w 1 d) b _ (have_right masks (ask_of (asked (Op.Over over w a b) w 0 d) a) _ k.asks));
  }
  operands_agree place env env' (Op.Part w pair index) d k plain some =
      let op = Op.Part w pair index in
      let part : IsPartOf (asked op w 0 d) (masks pair.0) = name_asked masks (asked op w 0 d) (Operand.Value pair) [] k.asks in
      let whole : asked op w 0 d ≡ all_bits w = whole_asked op w 0 d (inr (refl, some refl)) refl in
      agrees_part (asked op w 0 d) (masks pair.0) (env pair.0) (env' pair.0) part
      (k.rel.tied pair.0 (some_pair w d (asked op w 0 d) pair k.printable.0.least part whole) (k.is_done pair.0 (in_first pair.0 pair.0 [] refl))).agrees
  operands_agree place env env' (Op.Assume c) d k plain some = agrees_at place env env' (Op.Assume c) d k 1 (asked (Op.Assume c) 1 0 d) c (record { ty = k.typed; range = k.printable }) (names_c f (Op.Assume c)) (names_c f (with_operands (standing f masks (length f.values)) (Op.Assume c))) (name_asked masks (asked (Op.Assume c) 1 0 d) c _ k.asks)
  operands_agree place env env' (Op.Call width call) d k plain some = absurd (cc)

  -- an operation none of whose operands may have changed
  pub same_allowed : (place : Place) (env env' : Env) (op : Op) (d : ℕ) → AtOperation place env env' op d → is_partial op ≡ true → list_any changed (op_names f op) ≡ false →
      AllowsDone (done op (old_a env op) (old_b env op) (old_c env op)) (done op (new_a env' op) (new_b env' op) (new_c env' op))
  unfolding done
  same_allowed place env env' (Op.Bin bin flags w a b) d k part same =
      done_monotone (Op.Bin bin flags w a b) _ _ Val.Poison _ _ Val.Poison
      (allows_at place env env' (Op.Bin bin flags w a b) d k w a (record { ty = k.typed.first; range = k.printable.1.first }) (names_a f (Op.Bin bin flags w a b)) (names_a f (with_operands (standing f masks (length f.values)) (Op.Bin bin flags w a b))) same)
      (allows_at place env env' (Op.Bin bin flags w a b) d k w b (record { ty = k.typed.second; range = k.printable.1.second }) (names_b f (Op.Bin bin flags w a b)) (names_b f (with_operands (standing f masks (length f.values)) (Op.Bin bin flags w a b))) same) tt
      (new_values (Op.Bin bin flags w a b) env' k.rel.fits' k.typed k.printable)
  same_allowed place env env' (Op.Icmp pred samesign w a b) d k part same = absurd (cc)
  same_allowed place env env' (Op.Select w c a b) d k part same =
      done_monotone (Op.Select w c a b) _ _ _ _ _ _
      (allows_at place env env' (Op.Select w c a b) d k w a (record { ty = k.typed.1.first; range = k.printable.1.first }) (names_a f (Op.Select w c a b)) (names_a f (with_operands (standing f masks (length f.values)) (Op.Select w c a b))) same)
      (allows_at place env env' (Op.Select w c a b) d k w b (record { ty = k.typed.1.second; range = k.printable.1.second }) (names_b f (Op.Select w c a b)) (names_b f (with_operands (standing f masks (length f.values)) (Op.Select w c a b))) same)
      (allows_at place env env' (Op.Select w c a b) d k 1 c (record { ty = k.typed.0; range = k.printable.0 }) (names_c f (Op.Select w c a b)) (names_c f (with_operands (standing f masks (length f.values)) (Op.Select w c a b))) same)
      (new_values (Op.Select w c a b) env' k.rel.fits' k.typed k.printable)
  same_allowed place env env' (Op.Cast cast flags v w a) d k part same =
      done_monotone (Op.Cast cast flags v w a) _ Val.Poison Val.Poison _ Val.Poison Val.Poison (allows_at place env env' (Op.Cast cast flags v w a) d k v a (record { ty = k.typed.0; range = k.printable.2 }) (names_a f (Op.Cast cast flags v w a)) (names_a f (with_operands (standing f masks (length f.values)) (Op.Cast cast flags v w a))) same) tt tt (new_values (Op.Cast cast flags v w a) env' k.rel.fits' k.typed k.printable)
  same_allowed place env env' (Op.Freeze w a) d k part same =
      done_monotone (Op.Freeze w a) _ Val.Poison Val.Poison _ Val.Poison Val.Poison (allows_at place env env' (Op.Freeze w a) d k w a (record { ty = k.typed; range = k.printable.1 }) (names_a f (Op.Freeze w a)) (names_a f (with_operands (standing f masks (length f.values)) (Op.Freeze w a))) same) tt tt (new_values (Op.Freeze w a) env' k.rel.fits' k.typed k.printable)
  same_allowed place env env' (Op.Two fun w a b) d k part same = absurd (cc)
  same_allowed place env env' (Op.One fun w a strict) d k part same = absurd (cc)
  same_allowed place env env' (Op.Over over w a b) d k part same = absurd (cc)
  same_allowed place env env' (Op.Part w pair index) d k part same = absurd (cc)
  same_allowed place env env' (Op.Assume c) d k part same = absurd (cc)
  same_allowed place env env' (Op.Call width call) d k part same = absurd (cc)

-- ---- what becomes of an operation

-- the result of the first is undefined, or both give values of the type, which agree on what is asked of the result
abbrev pub Meets : Function → Op → ℕ → Bool → Env → Result → Type 0
Meets f op d marked env r' = Gives op env Undefined
    ⊎ ((v : Val) × (v' : Val) × (r' ≡ Gave v') × Gives op env (Gave v) × (nat_eq d 0 ≡ false → Tied d marked v v') × IsValueOf (op_type op) v × IsValueOf (op_type op) v')

-- a result all of whose bits are asked for is changed in none
pub record MarksRightly (f : Function) (changed : ℕ → Bool) (op : Op) (d : ℕ) (marked : Bool) : Type 0 where
  pub by_operand : list_any changed (op_names f op) ≡ true → marked ≡ false → (w : ℕ) → op_type op ≡ Ty.Int w → IsPartOf (all_bits w) d
  pub by_sign : has_unseen_sign op d ≡ true → marked ≡ true

tied_equal : (d : ℕ) (marked : Bool) (v v' : Val) → AllowsValue v v' → Tied d marked v v'
tied_equal d marked v v' h = record { agrees = allows_agrees d v v' h; allows = λ _. h }

partial_number : (op : Op) → is_partial op ≡ true → (w : ℕ) × (op_type op ≡ Ty.Int w)
partial_number (Op.Bin bin flags w a b) e = (w, refl)
partial_number (Op.Select w c a b) e = (w, refl)
partial_number (Op.Cast cast flags v w a) e = (w, refl)
partial_number (Op.Freeze w a) e = (w, refl)
partial_number (Op.Icmp pred samesign w a b) e = absurd (cc)
partial_number (Op.Two fun w a b) e = absurd (cc)
partial_number (Op.One fun w a strict) e = absurd (cc)
partial_number (Op.Over over w a b) e = absurd (cc)
partial_number (Op.Part w pair index) e = absurd (cc)
partial_number (Op.Assume c) e = absurd (cc)
partial_number (Op.Call width place) e = absurd (cc)

-- only a `sext` becomes another operation
whole_cast : (op : Op) (d : ℕ) → is_partial op ≡ false → narrowed_cast op d ≡ op
whole_cast (Op.Bin bin flags w a b) d e = refl
whole_cast (Op.Icmp pred samesign w a b) d e = refl
whole_cast (Op.Two fun w a b) d e = refl
whole_cast (Op.One fun w a strict) d e = refl
whole_cast (Op.Over over w a b) d e = refl
whole_cast (Op.Part w pair index) d e = refl
whole_cast (Op.Assume c) d e = refl
whole_cast (Op.Call width place) d e = refl
whole_cast (Op.Select w c a b) d e = absurd (cc)
whole_cast (Op.Cast cast flags v w a) d e = absurd (cc)
whole_cast (Op.Freeze w a) d e = absurd (cc)

seen_cast : (op : Op) (d : ℕ) → has_unseen_sign op d ≡ false → narrowed_cast op d ≡ op
seen_cast op d e = ap (λ t. if t then with_zeros op else op) e

partial_needs : (op : Op) → is_partial op ≡ true → needs_all op ≡ false
partial_needs (Op.Bin bin flags w a b) e = by (is_division bin) e
  where
    by : (t : Bool) → not t ≡ true → t ≡ false
    by false e = refl
    by true e = absurd (cc)
partial_needs (Op.Select w c a b) e = refl
partial_needs (Op.Cast cast flags v w a) e = refl
partial_needs (Op.Freeze w a) e = refl
partial_needs (Op.Icmp pred samesign w a b) e = absurd (cc)
partial_needs (Op.Two fun w a b) e = absurd (cc)
partial_needs (Op.One fun w a strict) e = absurd (cc)
partial_needs (Op.Over over w a b) e = absurd (cc)
partial_needs (Op.Part w pair index) e = absurd (cc)
partial_needs (Op.Assume c) e = absurd (cc)
partial_needs (Op.Call width place) e = absurd (cc)

lost_allowed : (t : Bool) (op : Op) (d : Done) (a b c : Val) → AllowsDone d (done op a b c) → AllowsDone d (done (lost_flags t op) a b c)
lost_allowed true op d a b c h = done_trans d (done op a b c) _ h (flags_allowed op a b c)
lost_allowed false op d a b c h = h

-- a `sext` none of whose copies of the sign is asked for
sign_agrees : (t : Bool) (op : Op) (d : ℕ) (a b c a' b' c' : Val) → has_unseen_sign op d ≡ true → nat_eq d 0 ≡ false → IsOperation op → AreValuesFor op a b c → AreValuesFor op a' b' c' →
    OperandsAgree op d a b c a' b' c' → AgreesDone d (done op a b c) (done (lost_flags t (with_zeros op)) a' b' c')
unfolding done of_operand
sign_agrees true (Op.Cast Cast.Sext flags v w o) d a b c a' b' c' unseen some operation i i' agree =
    let less : d < 2 ^ v = ltb-true d (2 ^ v) unseen in
    let op = Op.Cast Cast.Sext flags v w o in
    unseen_agrees flags v w d a a' operation.0 operation.1 operation.2 less i i' (subst (λ m. AgreesOn m a a') (asked_part op v 0 d refl some) agree)
sign_agrees false (Op.Cast Cast.Sext flags v w o) d a b c a' b' c' unseen some operation i i' agree =
    let less : d < 2 ^ v = ltb-true d (2 ^ v) unseen in
    let op = Op.Cast Cast.Sext flags v w o in
    unseen_agrees flags v w d a a' operation.0 operation.1 operation.2 less i i' (subst (λ m. AgreesOn m a a') (asked_part op v 0 d refl some) agree)
sign_agrees t (Op.Bin bin flags w oa ob) d a b c a' b' c' unseen some operation i i' agree = absurd (cc)
sign_agrees t (Op.Icmp pred samesign w oa ob) d a b c a' b' c' unseen some operation i i' agree = absurd (cc)
sign_agrees t (Op.Select w oc oa ob) d a b c a' b' c' unseen some operation i i' agree = absurd (cc)
sign_agrees t (Op.Cast Cast.Zext flags v w oa) d a b c a' b' c' unseen some operation i i' agree = absurd (cc)
sign_agrees t (Op.Cast Cast.Trunc flags v w oa) d a b c a' b' c' unseen some operation i i' agree = absurd (cc)
sign_agrees t (Op.Freeze w oa) d a b c a' b' c' unseen some operation i i' agree = absurd (cc)
sign_agrees t (Op.Two fun w oa ob) d a b c a' b' c' unseen some operation i i' agree = absurd (cc)
sign_agrees t (Op.One fun w oa strict) d a b c a' b' c' unseen some operation i i' agree = absurd (cc)
sign_agrees t (Op.Over over w oa ob) d a b c a' b' c' unseen some operation i i' agree = absurd (cc)
sign_agrees t (Op.Part w pair index) d a b c a' b' c' unseen some operation i i' agree = absurd (cc)
sign_agrees t (Op.Assume oc) d a b c a' b' c' unseen some operation i i' agree = absurd (cc)
sign_agrees t (Op.Call width place) d a b c a' b' c' unseen some operation i i' agree = absurd (cc)

-- ---- literals are read as they are

module _ (f : Function) (masks : ℕ → ℕ) (changed used : ℕ → Bool) (known : Known f masks changed) where
  module _ (place : Place) (env env' : Env) (op : Op) (d : ℕ) (marked : Bool) (k : AtOperation f masks changed used known place env env' op d)
      (plain : is_call op ≡ false) (fits : d < 2 ^ 128) (marks : MarksRightly f changed op d marked) where
    abbrev A : Val
    A = operand_value env (operand_a op)

    abbrev B : Val
    B = operand_value env (operand_b op)

    abbrev C : Val
    C = operand_value env (operand_c op)

    abbrev A' : Val
    A' = operand_value env' (operand_a (with_operands (standing f masks (length f.values)) op))

    abbrev B' : Val
    B' = operand_value env' (operand_b (with_operands (standing f masks (length f.values)) op))

    abbrev C' : Val
    C' = operand_value env' (operand_c (with_operands (standing f masks (length f.values)) op))

    old_typed : (v : Val) → Gives op env (Gave v) → IsValueOf (op_type op) v
    old_typed v gives = done_typed op A B C v (is_operation f op plain k.typed k.printable) (values_fit f masks changed used known op env k.rel.fits k.typed k.printable) gives

    new_typed : (op' : Op) → SameShape f op op' → (v' : Val) → Allowed (done op' A' B' C') (Gave v') → IsValueOf (op_type op) v'
    new_typed op' shape v' gives = subst (λ t. IsValueOf t v') shape.ty
        (done_typed op' A' B' C' v' (shape.operation (is_operation f op plain k.typed k.printable))
        (shape.values A' B' C' (new_values f masks changed used known op env' k.rel.fits' k.typed k.printable)) gives)

    met : (op' : Op) → SameShape f op op' → (r r' : Result) → Gives op env r → Allowed (done op' A' B' C') r' →
        ((v v' : Val) → r ≡ Gave v → r' ≡ Gave v' → IsValueOf (op_type op) v → IsValueOf (op_type op) v' → nat_eq d 0 ≡ false → Tied d marked v v') →
        ((v : Val) → r ≡ Gave v → r' ≡ Undefined → ⊥) → Meets f op d marked env r'
    met op' shape Undefined r' gives gives' tied never = inl gives
    met op' shape (Gave v) Undefined gives gives' tied never = absurd (never v refl refl)
    met op' shape (Gave v) (Gave v') gives gives' tied never =
        let ty = old_typed v gives in let ty' = new_typed op' shape v' gives' in
        inr (v, v', refl, gives, tied v v' refl refl ty ty', ty, ty')

    from_allowed : (op' : Op) → SameShape f op op' → AllowsDone (done op A B C) (done op' A' B' C') → (r' : Result) → Allowed (done op' A' B' C') r' → Meets f op d marked env r'
    from_allowed op' shape allows r' gives' =
        let r = allows.each r' gives' in
        met op' shape r.0 r' r.1 gives'
        (λ v v' e e' ty ty' some. tied_equal d marked v v' (subst₂ (λ s s'. AllowsResult s s') e e' r.2))
        (λ v e e'. subst₂ (λ s s'. AllowsResult s s') e e' r.2)

    from_agrees : (op' : Op) → SameShape f op op' → AgreesDone d (done op A B C) (done op' A' B' C') → (marked ≡ false → (w : ℕ) → op_type op ≡ Ty.Int w → IsPartOf (all_bits w) d) →
        is_partial op ≡ true → (r' : Result) → Allowed (done op' A' B' C') r' → Meets f op d marked env r'
    from_agrees op' shape agrees whole part r' gives' =
        let r = agrees.each r' gives' in
        met op' shape r.0 r' r.1 gives'
        (λ v v' e e' ty ty' some.
        let agree : AgreesOn d v v' = subst₂ (λ s s'. AgreesResult d s s') e e' r.2 in
        record {
          agrees = agree;
          allows = λ same.
              let number = partial_number op part in
              whole_allows number.0 d v v' (whole same number.0 number.1) (subst (λ t. IsValueOf t v) number.1 ty) (subst (λ t. IsValueOf t v') number.1 ty') agree;
        })
        (λ v e e'. subst₂ (λ s s'. AgreesResult d s s') e e' r.2)

    from_nothing : (op' : Op) → SameShape f op op' → needs_all op ≡ false → nat_eq d 0 ≡ true → (r' : Result) → Allowed (done op' A' B' C') r' → Meets f op d marked env r'
    from_nothing op' shape free none r' gives' =
        let r = some_result (done op A B C) in
        met op' shape r.0 r' r.1 gives'
        (λ v v' e e' ty ty' some. absurd (let s = some in let n = none in cc))
        (λ v e e'. let g = gives_value op' A' B' C' r' (shape.needs ∙ free) gives' in let h = g.1 in cc)

    -- ---- literals are themselves on both sides

    read_of : (o : Operand) → IsRead o (operand_value env o) (operand_value env' (standing f masks (length f.values) o))
    unfolding standing
    read_of (Operand.Value v) = tt
    read_of (Operand.Literal c) = (refl, refl)
    read_of Operand.Poison = refl

  read_a : (env env' : Env) (op : Op) → ((o : Operand) → IsRead o (operand_value env o) (operand_value env' (standing f masks (length f.values) o))) →
      IsRead (operand_a op) (operand_value env (operand_a op)) (operand_value env' (operand_a (with_operands (standing f masks (length f.values)) op)))
  read_a env env' (Op.Bin bin flags w a b) h = h a
  read_a env env' (Op.Icmp pred samesign w a b) h = h a
  read_a env env' (Op.Select w c a b) h = h a
  read_a env env' (Op.Cast cast flags v w a) h = h a
  read_a env env' (Op.Freeze w a) h = h a
  read_a env env' (Op.Two fun w a b) h = h a
  read_a env env' (Op.One fun w a strict) h = h a
  read_a env env' (Op.Over over w a b) h = h a
  read_a env env' (Op.Part w pair index) h = refl
  read_a env env' (Op.Assume c) h = refl
  read_a env env' (Op.Call width place) h = refl

  read_b : (env env' : Env) (op : Op) → ((o : Operand) → IsRead o (operand_value env o) (operand_value env' (standing f masks (length f.values) o))) →
      IsRead (operand_b op) (operand_value env (operand_b op)) (operand_value env' (operand_b (with_operands (standing f masks (length f.values)) op)))
  read_b env env' (Op.Bin bin flags w a b) h = h b
  read_b env env' (Op.Icmp pred samesign w a b) h = h b
  read_b env env' (Op.Select w c a b) h = h b
  read_b env env' (Op.Two fun w a b) h = h b
  read_b env env' (Op.Over over w a b) h = h b
  read_b env env' (Op.Cast cast flags v w a) h = refl
  read_b env env' (Op.Freeze w a) h = refl
  read_b env env' (Op.One fun w a strict) h = refl
  read_b env env' (Op.Part w pair index) h = refl
  read_b env env' (Op.Assume c) h = refl
  read_b env env' (Op.Call width place) h = refl

  pub operation_meets : (place : Place) (env env' : Env) (op : Op) (d : ℕ) (marked t : Bool) → AtOperation f masks changed used known place env env' op d →
      is_call op ≡ false → d < 2 ^ 128 → MarksRightly f changed op d marked → t ≡ list_any changed (op_names f op) → (r' : Result) →
      Gives (with_operands (standing f masks (length f.values)) (lost_flags t (narrowed_cast op d))) env' r' → Meets f op d marked env r'
  operation_meets place env env' op d marked t k plain fits marks is_t r' gives =
      by (is_partial op) refl (needs_all op) refl (nat_eq d 0) refl
    where
      put : Operand → Operand
      put o = standing f masks (length f.values) o

      op' : Op
      op' = lost_flags t (narrowed_cast op d)

      shape : SameShape f op (lost_flags t (narrowed_cast op d))
      shape = new_shape f t op d

      given : Allowed (done (lost_flags t (narrowed_cast op d)) (A' place env env' op d marked k plain fits marks) (B' place env env' op d marked k plain fits marks) (C' place env env' op d marked k plain fits marks)) r'
      given =
          subst (λ o. Allowed (done (lost_flags t (narrowed_cast op d)) (A' place env env' op d marked k plain fits marks) (B' place env env' op d marked k plain fits marks) (operand_value env' o)) r') (shape.put_c (standing f masks (length f.values)))
          (subst (λ o. Allowed (done (lost_flags t (narrowed_cast op d)) (A' place env env' op d marked k plain fits marks) (operand_value env' o) (operand_value env' (operand_c (with_operands (standing f masks (length f.values)) (lost_flags t (narrowed_cast op d)))))) r') (shape.put_b (standing f masks (length f.values)))
          (subst (λ o. Allowed (done (lost_flags t (narrowed_cast op d)) (operand_value env' o) (operand_value env' (operand_b (with_operands (standing f masks (length f.values)) (lost_flags t (narrowed_cast op d)))))
          (operand_value env' (operand_c (with_operands (standing f masks (length f.values)) (lost_flags t (narrowed_cast op d)))))) r') (shape.put_a (standing f masks (length f.values)))
          (gives_done (lost_flags t (narrowed_cast op d)) (standing f masks (length f.values)) env' r' gives)))

      agree : (needs_all op ≡ false → nat_eq d 0 ≡ false) → OperandsAgree op d (A place env env' op d marked k plain fits marks) (B place env env' op d marked k plain fits marks) (C place env env' op d marked k plain fits marks)
          (A' place env env' op d marked k plain fits marks) (B' place env env' op d marked k plain fits marks) (C' place env env' op d marked k plain fits marks)
      agree some = operands_agree f masks changed used known place env env' op d k plain some

      values : AreValuesFor op (A place env env' op d marked k plain fits marks) (B place env env' op d marked k plain fits marks) (C place env env' op d marked k plain fits marks)
      values = values_fit f masks changed used known op env k.rel.fits k.typed k.printable

      values' : AreValuesFor op (A' place env env' op d marked k plain fits marks) (B' place env env' op d marked k plain fits marks) (C' place env env' op d marked k plain fits marks)
      values' = new_values f masks changed used known op env' k.rel.fits' k.typed k.printable

      from_whole : is_partial op ≡ false → IsAsked op d → (needs_all op ≡ false → nat_eq d 0 ≡ false) → Meets f op d marked env r'
      from_whole part asks some =
          from_allowed place env env' op d marked k plain fits marks (lost_flags t (narrowed_cast op d)) shape
          (subst (λ o. AllowsDone (done op (operand_value env (operand_a op)) (operand_value env (operand_b op)) (operand_value env (operand_c op))) (done (lost_flags t o) (operand_value env' (operand_a (with_operands (standing f masks (length f.values)) op))) (operand_value env' (operand_b (with_operands (standing f masks (length f.values)) op))) (operand_value env' (operand_c (with_operands (standing f masks (length f.values)) op))))) (sym (whole_cast op d part))
          (lost_allowed t op (done op (operand_value env (operand_a op)) (operand_value env (operand_b op)) (operand_value env (operand_c op))) (operand_value env' (operand_a (with_operands (standing f masks (length f.values)) op))) (operand_value env' (operand_b (with_operands (standing f masks (length f.values)) op))) (operand_value env' (operand_c (with_operands (standing f masks (length f.values)) op))) (whole_allowed op d (operand_value env (operand_a op)) (operand_value env (operand_b op)) (operand_value env (operand_c op)) (operand_value env' (operand_a (with_operands (standing f masks (length f.values)) op))) (operand_value env' (operand_b (with_operands (standing f masks (length f.values)) op))) (operand_value env' (operand_c (with_operands (standing f masks (length f.values)) op))) part asks plain values values' (agree some)))) r' given

      from_part : is_partial op ≡ true → nat_eq d 0 ≡ false → (z : Bool) → has_unseen_sign op d ≡ z → (s : Bool) → t ≡ s → Meets f op d marked env r'
      from_part part some true sign s e =
          from_agrees place env env' op d marked k plain fits marks (lost_flags t (narrowed_cast op d)) shape
          (subst (λ o. AgreesDone d (done op (operand_value env (operand_a op)) (operand_value env (operand_b op)) (operand_value env (operand_c op))) (done (lost_flags t o) (operand_value env' (operand_a (with_operands (standing f masks (length f.values)) op))) (operand_value env' (operand_b (with_operands (standing f masks (length f.values)) op))) (operand_value env' (operand_c (with_operands (standing f masks (length f.values)) op))))) (sym (ap (λ z. if z then with_zeros op else op) sign))
          (sign_agrees t op d (operand_value env (operand_a op)) (operand_value env (operand_b op)) (operand_value env (operand_c op)) (operand_value env' (operand_a (with_operands (standing f masks (length f.values)) op))) (operand_value env' (operand_b (with_operands (standing f masks (length f.values)) op))) (operand_value env' (operand_c (with_operands (standing f masks (length f.values)) op))) sign some (is_operation f op plain k.typed k.printable) values values' (agree (λ _. some))))
          (λ same. absurd (let m = marks.by_sign sign in cc)) part r' given
      from_part part some false sign true e =
          from_agrees place env env' op d marked k plain fits marks (lost_flags t (narrowed_cast op d)) shape
          (subst₂ (λ o s. AgreesDone d (done op (operand_value env (operand_a op)) (operand_value env (operand_b op)) (operand_value env (operand_c op))) (done (lost_flags s o) (operand_value env' (operand_a (with_operands (standing f masks (length f.values)) op))) (operand_value env' (operand_b (with_operands (standing f masks (length f.values)) op))) (operand_value env' (operand_c (with_operands (standing f masks (length f.values)) op))))) (sym (seen_cast op d sign)) (sym e)
          (partial_agrees op d (operand_value env (operand_a op)) (operand_value env (operand_b op)) (operand_value env (operand_c op)) (operand_value env' (operand_a (with_operands (standing f masks (length f.values)) op))) (operand_value env' (operand_b (with_operands (standing f masks (length f.values)) op))) (operand_value env' (operand_c (with_operands (standing f masks (length f.values)) op))) (operand_a op) (operand_b op) part some fits (is_operation f op plain k.typed k.printable) values values' (agree (λ _. some)) refl refl
          (read_a env env' op (read_of place env env' op d marked k plain fits marks)) (read_b env env' op (read_of place env env' op d marked k plain fits marks))))
          (λ same. marks.by_operand (sym is_t ∙ e) same) part r' given
      from_part part some false sign false e =
          from_allowed place env env' op d marked k plain fits marks (lost_flags t (narrowed_cast op d)) shape
          (subst₂ (λ o s. AllowsDone (done op (operand_value env (operand_a op)) (operand_value env (operand_b op)) (operand_value env (operand_c op))) (done (lost_flags s o) (operand_value env' (operand_a (with_operands (standing f masks (length f.values)) op))) (operand_value env' (operand_b (with_operands (standing f masks (length f.values)) op))) (operand_value env' (operand_c (with_operands (standing f masks (length f.values)) op))))) (sym (seen_cast op d sign)) (sym e)
          (same_allowed f masks changed used known place env env' op d k part (sym is_t ∙ e))) r' given

      by : (p : Bool) → is_partial op ≡ p → (n : Bool) → needs_all op ≡ n → (z : Bool) → nat_eq d 0 ≡ z → Meets f op d marked env r'
      by false part true needs z some = from_whole part (inl needs) (λ free. absurd (cc))
      by false part false needs true none = from_nothing place env env' op d marked k plain fits marks (lost_flags t (narrowed_cast op d)) shape needs none r' given
      by false part false needs false some = from_whole part (inr (needs, some)) (λ _. some)
      by true part n needs true none = from_nothing place env env' op d marked k plain fits marks (lost_flags t (narrowed_cast op d)) shape (partial_needs op part) none r' given
      by true part n needs false some = from_part part some (has_unseen_sign op d) refl t refl
