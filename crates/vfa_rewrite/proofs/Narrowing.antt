-- A division at a lesser width: the lines that do it give what the narrowed division is said to give.
use Rattle.std.proofs.Common.{ne_eqb, subst₂, ◌≡◌, ◌<◌, ◌%◌, ◌^◌, ℕ, ◌++◌, Bool, true, false, nat_eq, if◌then◌else◌, Option, Some, List, [], ◌∷◌, refl, sym, ap, ◌∙◌, subst, arith}
use Rattle.std.proofs.lemmas.Bool.{eqb-true, eq-eqb}
use Rattle.std.proofs.lemmas.Nat.{pow_pos, mod_below}
use Rattle.std.specs.List.{AllByRecursion}
use Rattle.vfa_ir.specs.declared.operations.Bin.{Bin}
use Rattle.vfa_ir.specs.declared.operations.Cast.{Cast}
use Rattle.vfa_ir.specs.declared.operations.Flags.{Flags}
use Rattle.vfa_ir.specs.declared.operations.Op.{Op}
use Rattle.vfa_ir.specs.declared.operations.Operand.{Operand}
use Rattle.vfa_ir.specs.declared.operations.Ty.{Ty}
use Rattle.vfa_ir.specs.declared.operations.ValueId.{ValueId}
use Rattle.vfa_ir.specs.declared.functions.Function.{Function}
use Rattle.vfa_ir.specs.declared.functions.Inst.{Inst}
use Rattle.vfa_ir.specs.Operands.{no_cast_flags}
use Rattle.vfa_word.specs.Numbers.{IsWidth}
use Rattle.vfa_mean.specs.declared.value.Done.{Done}
use Rattle.vfa_mean.specs.declared.value.Val.{Val}
use Rattle.vfa_mean.specs.Laws.{AllowsResult}
use Rattle.vfa_mean.specs.Meaning.{Result, Undefined, Gave, Gives, Allowed, done, of_one, binary}
use Rattle.vfa_mean.specs.Moments.{is_call}
use Rattle.vfa_mean.specs.Outcomes.{with_value}
use Rattle.vfa_mean.specs.Rows.{convert}
use Rattle.vfa_mean.specs.Values.{Env, IsValueOf, IsInt, AllowsValue, operand_value}
use Rattle.vfa_mean.proofs.Monotony.{done_monotone}
use Rattle.vfa_mean.proofs.Results.{IsOne, one, of_one-one, convert-one}
use Rattle.vfa_mean.proofs.Typing.{done_typed}
use Rattle.vfa_cond.specs.Conditions.{name_type}
use Rattle.vfa_rewrite.specs.Rewritten.{Marks, line_of, name_of, truncation, truncated_operand, narrowed, rewritten}
use Rattle.vfa_rewrite.specs.Sound.{Agrees, Then, Comes}
use Rattle.vfa_rules.specs.Results.{Extended, NarrowedGives}

-- ---- conversions

convert_allowed : (cast : Cast) (v w : ℕ) (a : Operand) (x y z : Val) (r : Result) → Allowed (done (Op.Cast cast no_cast_flags v w a) x y z) r →
    Allowed (of_one (convert cast no_cast_flags v w) x) r
unfolding done
convert_allowed cast v w a x y z r h = h

allowed_convert : (cast : Cast) (v w : ℕ) (a : Operand) (x y z : Val) (r : Result) → Allowed (of_one (convert cast no_cast_flags v w) x) r →
    Allowed (done (Op.Cast cast no_cast_flags v w a) x y z) r
unfolding done
allowed_convert cast v w a x y z r h = h

binary_allowed : (bin : Bin) (flags : Flags) (v : ℕ) (a b : Operand) (x y z : Val) (r : Result) → Allowed (done (Op.Bin bin flags v a b) x y z) r →
    Allowed (binary bin flags v x y) r
unfolding done
binary_allowed bin flags v a b x y z r h = h

allowed_binary : (bin : Bin) (flags : Flags) (v : ℕ) (a b : Operand) (x y z : Val) (r : Result) → Allowed (binary bin flags v x y) r →
    Allowed (done (Op.Bin bin flags v a b) x y z) r
unfolding done
allowed_binary bin flags v a b x y z r h = h

never_undefined : {X : Type 0} (d : Done) → IsOne d → Allowed d Undefined → X
never_undefined d (one v) h = absurd (cc)

-- a conversion gives a value
convert_gives : {X : Type 0} (cast : Cast) (v w : ℕ) (x : Val) → Allowed (of_one (convert cast no_cast_flags v w) x) Undefined → X
convert_gives cast v w x h =
    never_undefined (of_one (convert cast no_cast_flags v w) x) (of_one-one (convert cast no_cast_flags v w) x (λ n. convert-one cast no_cast_flags v w n)) h

truncation_typed : (w v : ℕ) (x : Val) → IsWidth w → IsWidth v → v < w → IsInt w x → (value : Val) →
    Allowed (of_one (convert Cast.Trunc no_cast_flags w v) x) (Gave value) → IsInt v value
truncation_typed w v x of_w of_v less typed value h =
    done_typed (Op.Cast Cast.Trunc no_cast_flags w v Operand.Poison) x Val.Poison Val.Poison value (of_w, of_v, less) typed
    (allowed_convert Cast.Trunc w v Operand.Poison x Val.Poison Val.Poison (Gave value) h)

quotient_typed : (bin : Bin) (flags : Flags) (v : ℕ) → IsWidth v → (first second : Val) → IsInt v first → IsInt v second → (q : Val) →
    Allowed (binary bin flags v first second) (Gave q) → IsInt v q
quotient_typed bin flags v of_v first second of_first of_second q h =
    done_typed (Op.Bin bin flags v Operand.Poison Operand.Poison) first second Val.Poison q of_v (record { first = of_first; second = of_second })
    (allowed_binary bin flags v Operand.Poison Operand.Poison first second Val.Poison (Gave q) h)

-- ---- the operands at the lesser width

-- a name that narrowing adds is none of the operand's
abbrev pub IsApart : ℕ → Operand → Type 0
IsApart name (Operand.Value n) = n.0 ≡ name → ⊥
IsApart name (Operand.Literal x) = Unit {0}
IsApart name Operand.Poison = Unit {0}

written_apart : (env : Env) (name : ℕ) (v : Val) (a : Operand) → IsApart name a → operand_value (with_value env name v) a ≡ operand_value env a
written_apart env name v (Operand.Value n) apart = ap (λ t. if t then v else env n.0) (ne_eqb n.0 name apart)
written_apart env name v (Operand.Literal x) apart = refl
written_apart env name v Operand.Poison apart = refl

written_here : (env : Env) (name : ℕ) (v : Val) → with_value env name v name ≡ v
written_here env name v = ap (λ t. if t then v else env name) (eq-eqb name name refl)

-- what is left of a name that is truncated
truncated_apart : (v : ℕ) (a : Operand) (name other : ℕ) → (name ≡ other → ⊥) → IsApart other (truncated_operand v a name)
truncated_apart v (Operand.Value n) name other apart = apart
truncated_apart v (Operand.Literal x) name other apart = tt
truncated_apart v Operand.Poison name other apart = tt

module _ (f : Function) (m : Marks) where
  -- a name that is not kept gets a value of its type
  fresh_written : (env env' : Env) (name : ℕ) (v : Val) → Agrees f m env env' → m.keeps name ≡ false → IsValueOf (name_type (rewritten f m) name) v →
      Agrees f m env (with_value env' name v)
  fresh_written env env' name v agrees unused typed = record {
    allows = λ n kept. by_allows n (nat_eq n name) refl kept (agrees.allows n kept);
    typed = λ n. by_typed n (nat_eq n name) refl (agrees.typed n);
  }
    where
      by_allows : (n : ℕ) (t : Bool) → nat_eq n name ≡ t → m.keeps n ≡ true → AllowsValue (env n) (env' n) → AllowsValue (env n) (if t then v else env' n)
      by_allows n true e kept h = absurd (let same = eqb-true n name e in cc)
      by_allows n false e kept h = h

      by_typed : (n : ℕ) (t : Bool) → nat_eq n name ≡ t → IsValueOf (name_type (rewritten f m) n) (env' n) → IsValueOf (name_type (rewritten f m) n) (if t then v else env' n)
      by_typed n true e h = subst (λ k. IsValueOf (name_type (rewritten f m) k) v) (sym (eqb-true n name e)) typed
      by_typed n false e h = h

  -- after the truncation of an operand
  record Truncated (w v : ℕ) (a : Operand) (name : ℕ) (rest : List Inst) (env env' : Env) (end : Option Env) : Type 0 where
    value : Val
    after : Env
    truncates : Allowed (of_one (convert Cast.Trunc no_cast_flags w v) (operand_value env' a)) (Gave value)
    is : operand_value after (truncated_operand v a name) ≡ value
    typed : IsInt v value
    others : (b : Operand) → IsApart name b → operand_value after b ≡ operand_value env' b
    agrees : Agrees f m env after
    comes : Comes rest after end

  module _ (w v : ℕ) (of_w : IsWidth w) (of_v : IsWidth v) (less : v < w) (name : ℕ) (unused : m.keeps name ≡ false) (fresh : name_type (rewritten f m) name ≡ Ty.Int v)
      (rest : List Inst) (env : Env) (end : Option Env) where
    name_truncated : (n : ValueId) (env' : Env) → Agrees f m env env' → IsInt w (env' n.0) → (r : Result) →
        Gives (Op.Cast Cast.Trunc no_cast_flags w v (Operand.Value n)) env' r → Then (Some (name_of name)) (Comes rest) env' r end →
        Truncated w v (Operand.Value n) name rest env env' end
    name_truncated n env' agrees typed Undefined gives behind =
        convert_gives Cast.Trunc w v (env' n.0) (convert_allowed Cast.Trunc w v (Operand.Value n) (env' n.0) Val.Poison Val.Poison Undefined gives)
    name_truncated n env' agrees typed (Gave value) gives behind =
        let truncates = convert_allowed Cast.Trunc w v (Operand.Value n) (env' n.0) Val.Poison Val.Poison (Gave value) gives in
        let of_value = truncation_typed w v (env' n.0) of_w of_v less typed value truncates in
        record {
          value = value;
          after = with_value env' name value;
          truncates = truncates;
          is = written_here env' name value;
          typed = of_value;
          others = λ b apart. written_apart env' name value b apart;
          agrees = fresh_written env env' name value agrees unused (subst (λ t. IsValueOf t value) (sym fresh) of_value);
          comes = behind;
        }

    operand_truncated : (a : Operand) (env' : Env) → Agrees f m env env' → IsInt w (operand_value env' a) → Comes (truncation w v a name ++ rest) env' end →
        Truncated w v a name rest env env' end
    operand_truncated (Operand.Value n) env' agrees typed h = name_truncated n env' agrees typed h.0 h.1 h.2
    operand_truncated (Operand.Literal x) env' agrees typed h = record {
      value = Val.Number (x % 2 ^ v);
      after = env';
      truncates = refl;
      is = refl;
      typed = mod_below x (2 ^ v) (pow_pos v);
      others = λ b apart. refl;
      agrees = agrees;
      comes = h;
    }
    operand_truncated Operand.Poison env' agrees typed h =
        record { value = Val.Poison; after = env'; truncates = refl; is = refl; typed = tt; others = λ b apart. refl; agrees = agrees; comes = h }

  -- ---- the narrowed division

  -- what all its lines come to
  pub record ComesNarrowed (bin : Bin) (flags : Flags) (w v : ℕ) (a b : Operand) (result : Option ValueId) (env env' : Env) (end : Option Env) : Type 0 where
    pub given : Result
    pub gives : NarrowedGives bin flags v w (operand_value env' a) (operand_value env' b) given
    pub before : Env
    pub agrees : Agrees f m env before
    pub comes : Then result (Comes []) before given end

  module _ (bin : Bin) (flags : Flags) (w v : ℕ) (of_w : IsWidth w) (of_v : IsWidth v) (less : v < w) (fresh : ℕ → ℕ)
      (unused : (k : ℕ) → m.keeps (fresh k) ≡ false) (typed : (k : ℕ) → k < 3 → name_type (rewritten f m) (fresh k) ≡ Ty.Int v) (apart : fresh 0 ≡ fresh 1 → ⊥)
      (result : Option ValueId) (env : Env) (end : Option Env) where
    -- the division and the widening of its result
    divided : (a b : Operand) (env' after : Env) (first second : Val) → Agrees f m env after →
        Allowed (of_one (convert Cast.Trunc no_cast_flags w v) (operand_value env' a)) (Gave first) →
        Allowed (of_one (convert Cast.Trunc no_cast_flags w v) (operand_value env' b)) (Gave second) → IsInt v first → IsInt v second →
        (r : Result) → Allowed (binary bin flags v first second) r →
        Then (Some (name_of (fresh 2))) (Comes (line_of result (Op.Cast Cast.Zext no_cast_flags v w (Operand.Value (name_of (fresh 2)))) ∷ [])) after r end →
        ComesNarrowed bin flags w v a b result env env' end
    divided a b env' after first second agrees first_truncated second_truncated of_first of_second Undefined gives behind = record {
      given = Undefined;
      gives = record {
        first = first;
        second = second;
        middle = Undefined;
        first_truncated = first_truncated;
        second_truncated = second_truncated;
        done_narrow = gives;
        extended = refl;
      };
      before = after;
      agrees = agrees;
      comes = behind;
    }
    divided a b env' after first second agrees first_truncated second_truncated of_first of_second (Gave q) gives behind =
        let written = with_value after (fresh 2) q in
        let extended = subst (λ x. Allowed (of_one (convert Cast.Zext no_cast_flags v w) x) behind.0) (written_here after (fresh 2) q)
        (convert_allowed Cast.Zext v w (Operand.Value (name_of (fresh 2))) (written (fresh 2)) Val.Poison Val.Poison behind.0 behind.1) in
        let of_q = quotient_typed bin flags v of_v first second of_first of_second q gives in
        record {
          given = behind.0;
          gives = record {
            first = first;
            second = second;
            middle = Gave q;
            first_truncated = first_truncated;
            second_truncated = second_truncated;
            done_narrow = gives;
            extended = extended;
          };
          before = written;
          agrees = fresh_written env after (fresh 2) q agrees (unused 2) (subst (λ t. IsValueOf t q) (sym (typed 2 (omega arith))) of_q);
          comes = behind.2;
        }

    pub narrowed_comes : (a b : Operand) (env' : Env) → Agrees f m env env' → IsInt w (operand_value env' a) → IsInt w (operand_value env' b) →
        IsApart (fresh 0) b → Comes (narrowed fresh v result (Op.Bin bin flags w a b)) env' end → ComesNarrowed bin flags w v a b result env env' end
    narrowed_comes a b env' agrees of_a of_b apart_b h =
        let division = line_of (Some (name_of (fresh 2))) (Op.Bin bin flags v (truncated_operand v a (fresh 0)) (truncated_operand v b (fresh 1))) in
        let widening = line_of result (Op.Cast Cast.Zext no_cast_flags v w (Operand.Value (name_of (fresh 2)))) in
        let one = operand_truncated w v of_w of_v less (fresh 0) (unused 0) (typed 0 (omega arith))
        (truncation w v b (fresh 1) ++ (division ∷ (widening ∷ []))) env end a env' agrees of_a h in
        let same_b = one.others b apart_b in
        let two = operand_truncated w v of_w of_v less (fresh 1) (unused 1) (typed 1 (omega arith)) (division ∷ (widening ∷ [])) env end b one.after one.agrees
        (subst (λ x. IsInt w x) (sym same_b) of_b) one.comes in
        let second_truncated = subst (λ x. Allowed (of_one (convert Cast.Trunc no_cast_flags w v) x) (Gave two.value)) same_b two.truncates in
        let a' = truncated_operand v a (fresh 0) in
        let b' = truncated_operand v b (fresh 1) in
        let same_a : operand_value two.after a' ≡ one.value = two.others a' (truncated_apart v a (fresh 0) (fresh 1) apart) ∙ one.is in
        let gives = binary_allowed bin flags v a' b' (operand_value two.after a') (operand_value two.after b') Val.Poison two.comes.0 two.comes.1 in
        divided a b env' two.after one.value two.value two.agrees one.truncates second_truncated one.typed two.typed two.comes.0
        (subst₂ (λ x y. Allowed (binary bin flags v x y) two.comes.0) same_a two.is gives) two.comes.2

-- ---- monotony

module _ (w v : ℕ) (of_w : IsWidth w) (of_v : IsWidth v) (less : v < w) where
  record TruncatesTo (x first' : Val) : Type 0 where
    first : Val
    truncates : Allowed (of_one (convert Cast.Trunc no_cast_flags w v) x) (Gave first)
    allows : AllowsValue first first'

  some_truncation : (x first' : Val) (r : Result) → Allowed (of_one (convert Cast.Trunc no_cast_flags w v) x) r → AllowsResult r (Gave first') → TruncatesTo x first'
  some_truncation x first' Undefined h k = convert_gives Cast.Trunc w v x h
  some_truncation x first' (Gave first) h k = record { first = first; truncates = h; allows = k }

  truncation_allowed : (x x' first' : Val) → AllowsValue x x' → IsInt w x' → Allowed (of_one (convert Cast.Trunc no_cast_flags w v) x') (Gave first') → TruncatesTo x first'
  truncation_allowed x x' first' allows typed h =
      let each = (done_monotone (Op.Cast Cast.Trunc no_cast_flags w v Operand.Poison) x Val.Poison Val.Poison x' Val.Poison Val.Poison allows tt tt typed).each (Gave first')
      (allowed_convert Cast.Trunc w v Operand.Poison x' Val.Poison Val.Poison (Gave first') h) in
      some_truncation x first' each.0 (convert_allowed Cast.Trunc w v Operand.Poison x Val.Poison Val.Poison each.0 each.1) each.2

  pub record NarrowedAllowed (bin : Bin) (flags : Flags) (x y : Val) (r' : Result) : Type 0 where
    pub result : Result
    pub gives : NarrowedGives bin flags v w x y result
    pub allows : AllowsResult result r'

  middle_allowed : (bin : Bin) (flags : Flags) (x y : Val) (r' : Result) (left : (first' : Val) × TruncatesTo x first') (right : (second' : Val) × TruncatesTo y second') →
      (middle middle' : Result) → Allowed (binary bin flags v left.1.first right.1.first) middle → AllowsResult middle middle' →
      ((q : Val) → middle' ≡ Gave q → IsInt v q) → Extended v w middle' r' → NarrowedAllowed bin flags x y r'
  middle_allowed bin flags x y r' left right Undefined middle' gives allows typed extended = record {
    result = Undefined;
    gives = record {
      first = left.1.first;
      second = right.1.first;
      middle = Undefined;
      first_truncated = left.1.truncates;
      second_truncated = right.1.truncates;
      done_narrow = gives;
      extended = refl;
    };
    allows = tt;
  }
  middle_allowed bin flags x y r' left right (Gave q) Undefined gives allows typed extended = absurd allows
  middle_allowed bin flags x y r' left right (Gave q) (Gave q') gives allows typed extended =
      let each = (done_monotone (Op.Cast Cast.Zext no_cast_flags v w Operand.Poison) q Val.Poison Val.Poison q' Val.Poison Val.Poison allows tt tt (typed q' refl)).each r'
      (allowed_convert Cast.Zext v w Operand.Poison q' Val.Poison Val.Poison r' extended) in
      record {
        result = each.0;
        gives = record {
          first = left.1.first;
          second = right.1.first;
          middle = Gave q;
          first_truncated = left.1.truncates;
          second_truncated = right.1.truncates;
          done_narrow = gives;
          extended = convert_allowed Cast.Zext v w Operand.Poison q Val.Poison Val.Poison each.0 each.1;
        };
        allows = each.2;
      }

  pub narrowed_allowed : (f : Function) (bin : Bin) (flags : Flags) (x y x' y' : Val) (r' : Result) → AllowsValue x x' → AllowsValue y y' → IsInt w x' → IsInt w y' →
      NarrowedGives bin flags v w x' y' r' → NarrowedAllowed bin flags x y r'
  narrowed_allowed f bin flags x y x' y' r' ax ay of_x of_y n =
      let left = truncation_allowed x x' n.first ax of_x n.first_truncated in
      let right = truncation_allowed y y' n.second ay of_y n.second_truncated in
      let of_first = truncation_typed w v x' of_w of_v less of_x n.first n.first_truncated in
      let of_second = truncation_typed w v y' of_w of_v less of_y n.second n.second_truncated in
      let each = (done_monotone (Op.Bin bin flags v Operand.Poison Operand.Poison) left.first right.first Val.Poison n.first n.second Val.Poison left.allows right.allows tt
      (record { first = of_first; second = of_second })).each n.middle
      (allowed_binary bin flags v Operand.Poison Operand.Poison n.first n.second Val.Poison n.middle n.done_narrow) in
      middle_allowed bin flags x y r' (n.first, left) (n.second, right) each.0 n.middle
      (binary_allowed bin flags v Operand.Poison Operand.Poison left.first right.first Val.Poison each.0 each.1) each.2
      (λ q e. quotient_typed bin flags v of_v n.first n.second of_first of_second q (subst (λ r. Allowed (binary bin flags v n.first n.second) r) e n.done_narrow))
      n.extended

-- the result of the narrowed division is of the greater width
pub extended_typed : (v w : ℕ) → IsWidth v → IsWidth w → v < w → (q r : Val) → IsInt v q → Extended v w (Gave q) (Gave r) → IsInt w r
extended_typed v w of_v of_w less q r typed h =
    done_typed (Op.Cast Cast.Zext no_cast_flags v w Operand.Poison) q Val.Poison Val.Poison r (of_v, of_w, less) typed
    (allowed_convert Cast.Zext v w Operand.Poison q Val.Poison Val.Poison (Gave r) h)

pub narrowed_typed : (bin : Bin) (flags : Flags) (w v : ℕ) → IsWidth w → IsWidth v → v < w → (x y r : Val) → IsInt w x → IsInt w y →
    NarrowedGives bin flags v w x y (Gave r) → IsInt w r
narrowed_typed bin flags w v of_w of_v less x y r of_x of_y n = by n.middle refl
  where
    by : (middle : Result) → n.middle ≡ middle → IsInt w r
    by Undefined e = absurd (let u : Gave r ≡ Undefined = subst (λ q. Extended v w q (Gave r)) e n.extended in cc)
    by (Gave q) e =
        let of_first = truncation_typed w v x of_w of_v less of_x n.first n.first_truncated in
        let of_second = truncation_typed w v y of_w of_v less of_y n.second n.second_truncated in
        let of_q = quotient_typed bin flags v of_v n.first n.second of_first of_second q
        (subst (λ z. Allowed (binary bin flags v n.first n.second) z) e n.done_narrow) in
        extended_typed v w of_v of_w less q r of_q (subst (λ z. Extended v w z (Gave r)) e n.extended)

-- the lines of a narrowed division are operations
truncation_plain : (w v : ℕ) (a : Operand) (name : ℕ) (rest : List Inst) → AllByRecursion (λ (line : Inst). is_call line.op ≡ false) rest →
    AllByRecursion (λ (line : Inst). is_call line.op ≡ false) (truncation w v a name ++ rest)
truncation_plain w v (Operand.Value n) name rest h = (refl, h)
truncation_plain w v (Operand.Literal x) name rest h = h
truncation_plain w v Operand.Poison name rest h = h

pub narrowed_plain : (fresh : ℕ → ℕ) (v : ℕ) (result : Option ValueId) (bin : Bin) (flags : Flags) (w : ℕ) (a b : Operand) →
    AllByRecursion (λ (line : Inst). is_call line.op ≡ false) (narrowed fresh v result (Op.Bin bin flags w a b))
narrowed_plain fresh v result bin flags w a b =
    truncation_plain w v a (fresh 0) _ (truncation_plain w v b (fresh 1) _ (refl, (refl, tt)))
