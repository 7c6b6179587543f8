-- What narrowing makes of states that agree on the names that it follows.
use Rattle.std.proofs.Common.{◌≡◌, ℕ, zero, suc, Bool, true, false, nat_eq, if◌then◌else◌, ◌&&◌, Option, Some, None, is_some, IsTrue, [], ◌++◌, refl, ap, subst}
use Rattle.std.specs.Bool.{⊤}
use Rattle.std.specs.Prelude.{bit_and}
use Rattle.vfa_ir.specs.declared.operations.Bin.{Bin}
use Rattle.vfa_ir.specs.declared.operations.Cast.{Cast}
use Rattle.vfa_ir.specs.declared.operations.Op.{Op}
use Rattle.vfa_ir.specs.declared.operations.Operand.{Operand}
use Rattle.vfa_ir.specs.declared.operations.Pred.{Pred}
use Rattle.vfa_ir.specs.declared.functions.Function.{Function}
use Rattle.vfa_ir.specs.Defined.{operand_names, op_names}
use Rattle.vfa_ir.specs.Walks.{is_in}
use Rattle.vfa_mean.specs.Meaning.{operand_a, operand_b, operand_c}
use Rattle.vfa_mean.proofs.FreshOperands.Definitions.{in_left, in_right, in_first}
use Rattle.vfa_values.specs.Answers.{Answers}
use Rattle.vfa_cond.specs.declared.want.Want.{Want}
use Rattle.vfa_cond.specs.Consequences.{equal_bit, of_sum, both_true, of_and, of_or, of_xor, from_number, of_binary, of_conversion, of_comparison, of_select, is_literal, consequence_of}
use Rattle.vfa_cond.specs.Equations.{equation}
use Rattle.vfa_cond.specs.Narrowing.{Change, Narrowing, and_then, operand_fact, narrowed_operand, narrowed_both, held_with, held, carried_out, live_equation, by_equation, kept_by, narrowed_by, followed, narrowed}
use Rattle.vfa_cond.specs.Opposites.{exchanged, negated}
use Rattle.vfa_cond.specs.States.{AbstractState, with_fact}
use Rattle.vfa_cond.specs.Wants.{kept}
use Rattle.vfa_walk.specs.TruthReads.{Follows, AgreeOn, EntriesAgree}

-- ---- operands among names

abbrev pub IsAmong : (ℕ → Type 0) → Operand → Type 0
IsAmong P (Operand.Value v) = P v.0
IsAmong P (Operand.Literal bits) = ⊤
IsAmong P Operand.Poison = ⊤

pub among_more : (P Q : ℕ → Type 0) → ((v : ℕ) → P v → Q v) → (x : Operand) → IsAmong P x → IsAmong Q x
among_more P Q more (Operand.Value v) h = more v.0 h
among_more P Q more (Operand.Literal bits) h = tt
among_more P Q more Operand.Poison h = tt

-- the operands of an operation that its table of meanings names
pub record AreAmong (P : ℕ → Type 0) (op : Op) : Type 0 where
  pub a : IsAmong P (operand_a op)
  pub b : IsAmong P (operand_b op)
  pub c : IsAmong P (operand_c op)

pub are_among_more : (P Q : ℕ → Type 0) → ((v : ℕ) → P v → Q v) → (op : Op) → AreAmong P op → AreAmong Q op
are_among_more P Q more op h = record { a = among_more P Q more (operand_a op) h.a; b = among_more P Q more (operand_b op) h.b; c = among_more P Q more (operand_c op) h.c }

-- the names of operands are those of the operation
module _ (f : Function) where
  own : (names : ℕ → Bool) (x : Operand) → ((v : ℕ) → is_in v (operand_names x) ≡ true → names v ≡ true) → IsAmong (λ v. IsTrue (names v)) x
  own names (Operand.Value v) inside = inside v.0 (in_first v.0 v.0 [] refl)
  own names (Operand.Literal bits) inside = tt
  own names Operand.Poison inside = tt

  two_among : (op : Op) (a b : Operand) → ((v : ℕ) → is_in v (operand_names a ++ operand_names b) ≡ true → is_in v (op_names f op) ≡ true) →
      IsAmong (λ v. IsTrue (is_in v (op_names f op))) a × IsAmong (λ v. IsTrue (is_in v (op_names f op))) b
  two_among op a b inside = (
    own (λ v. is_in v (op_names f op)) a (λ v h. inside v (in_left v (operand_names a) (operand_names b) h)),
    own (λ v. is_in v (op_names f op)) b (λ v h. inside v (in_right v (operand_names a) (operand_names b) h)),
  )

  pub operands_among : (op : Op) → AreAmong (λ v. IsTrue (is_in v (op_names f op))) op
  operands_among (Op.Bin bin flags w a b) = let h = two_among (Op.Bin bin flags w a b) a b (λ v h. h) in record { a = h.0; b = h.1; c = tt }
  operands_among (Op.Icmp pred s w a b) = let h = two_among (Op.Icmp pred s w a b) a b (λ v h. h) in record { a = h.0; b = h.1; c = tt }
  operands_among (Op.Select w c a b) =
      let names : ℕ → Bool = λ v. is_in v (op_names f (Op.Select w c a b)) in
      let h = two_among (Op.Select w c a b) a b (λ v h. in_right v (operand_names c) (operand_names a ++ operand_names b) h) in
      record { a = h.0; b = h.1; c = own names c (λ v h. in_left v (operand_names c) (operand_names a ++ operand_names b) h) }
  operands_among (Op.Cast cast flags from to a) = record { a = own (λ v. is_in v (operand_names a)) a (λ v h. h); b = tt; c = tt }
  operands_among (Op.Freeze w a) = record { a = own (λ v. is_in v (operand_names a)) a (λ v h. h); b = tt; c = tt }
  operands_among (Op.Two fun w a b) = let h = two_among (Op.Two fun w a b) a b (λ v h. h) in record { a = h.0; b = h.1; c = tt }
  operands_among (Op.One fun w a strict) = record { a = own (λ v. is_in v (operand_names a)) a (λ v h. h); b = tt; c = tt }
  operands_among (Op.Over over w a b) = let h = two_among (Op.Over over w a b) a b (λ v h. h) in record { a = h.0; b = h.1; c = tt }
  operands_among (Op.Part w pair index) = record { a = tt; b = tt; c = in_first pair.0 pair.0 [] refl }
  operands_among (Op.Assume c) = record { a = tt; b = tt; c = own (λ v. is_in v (operand_names c)) c (λ v h. h) }
  operands_among (Op.Call width call) = record { a = tt; b = tt; c = tt }

-- ---- narrowing

module _ (f : Function) (N : ℕ → Type 0) where
  -- what the name leads to through so many equations is among the names
  abbrev pub IsClosed : ℕ → ℕ → Type 0
  IsClosed left v = (w : ℕ) → Follows f left v w → N w

  pub closed_self : (left v : ℕ) → IsClosed left v → N v
  closed_self left v closed = closed v (Follows.itself left v)

module _ {V : Type 0} (N : ℕ → Type 0) where
  pub then_agree : (r r' : Option (AbstractState V)) (next : Change V) → EntriesAgree N r r' → ((s s' : AbstractState V) → AgreeOn N s s' → EntriesAgree N (next s) (next s')) →
      EntriesAgree N (and_then r next) (and_then r' next)
  then_agree None None next first second = tt
  then_agree None (Some s') next first second = absurd first
  then_agree (Some s) None next first second = absurd first
  then_agree (Some s) (Some s') next first second = second s s' first

  pub if_agree : (b : Bool) (r r' q q' : Option (AbstractState V)) → EntriesAgree N r r' → EntriesAgree N q q' → EntriesAgree N (if b then r else q) (if b then r' else q')
  if_agree true r r' q q' h h' = h
  if_agree false r r' q q' h h' = h'

  pub with_fact_agree : (s s' : AbstractState V) (v : ℕ) (d : Option V) → AgreeOn N s s' → AgreeOn N (with_fact s v d) (with_fact s' v d)
  with_fact_agree s s' v d agree u inside = (ap (λ o. if nat_eq u v then d else o) (agree u inside).0, (agree u inside).1)

module _ {V : Type 0} (answers : Answers V) (f : Function) (N : ℕ → Type 0) where
  abbrev State : Type 0
  State = AbstractState V

  -- narrowing one of the names P
  abbrev pub NarrowingAgrees : (ℕ → Type 0) → Narrowing V → Type 0
  NarrowingAgrees P narrow = (v : ℕ) (want : Want V) (s s' : State) → P v → AgreeOn N s s' → EntriesAgree N (narrow v want s) (narrow v want s')

  module _ (P : ℕ → Type 0) (narrow : Narrowing V) (agrees : NarrowingAgrees P narrow) where
    pub operand_agrees : (x : Operand) (w : ℕ) (want : Want V) (s s' : State) → IsAmong P x → AgreeOn N s s' →
        EntriesAgree N (narrowed_operand answers narrow x w want s) (narrowed_operand answers narrow x w want s')
    operand_agrees (Operand.Value v) w want s s' inside agree = agrees v.0 want s s' inside agree
    operand_agrees (Operand.Literal bits) w want s s' inside agree = if_agree N (is_some (kept answers (answers.literal w bits) want)) (Some s) (Some s') None None agree tt
    operand_agrees Operand.Poison w want s s' inside agree = tt

    held_with_agrees : (x : Operand) (pred : Pred) (y : Operand) (w : ℕ) (X Y : Option V) (s s' : State) → IsAmong P x → IsAmong P y → AgreeOn N s s' →
        EntriesAgree N (held_with answers narrow x pred y w X Y s) (held_with answers narrow x pred y w X Y s')
    held_with_agrees x pred y w None Y s s' hx hy agree = agree
    held_with_agrees x pred y w (Some d) None s s' hx hy agree = agree
    held_with_agrees x pred y w (Some d) (Some e) s s' hx hy agree =
        then_agree N _ _ (narrowed_operand answers narrow y w (Want.Compare (exchanged pred) d)) (operand_agrees x w (Want.Compare pred e) s s' hx agree)
        (λ t t' agree'. operand_agrees y w (Want.Compare (exchanged pred) d) t t' hy agree')

    operand_fact_same : (w : ℕ) (x : Operand) (s s' : State) → IsAmong N x → AgreeOn N s s' → operand_fact answers w s x ≡ operand_fact answers w s' x
    operand_fact_same w (Operand.Value v) s s' inside agree = (agree v.0 inside).0
    operand_fact_same w (Operand.Literal bits) s s' inside agree = refl
    operand_fact_same w Operand.Poison s s' inside agree = refl

    held_agrees : ((v : ℕ) → P v → N v) → (x : Operand) (pred : Pred) (y : Operand) (w : ℕ) (s s' : State) → IsAmong P x → IsAmong P y → AgreeOn N s s' →
        EntriesAgree N (held answers narrow x pred y w s) (held answers narrow x pred y w s')
    held_agrees inside x pred y w s s' hx hy agree =
        subst (λ X. EntriesAgree N (held answers narrow x pred y w s) (held_with answers narrow x pred y w X (operand_fact answers w s' y) s'))
        (operand_fact_same w x s s' (among_more P N inside x hx) agree)
        (subst (λ Y. EntriesAgree N (held answers narrow x pred y w s) (held_with answers narrow x pred y w (operand_fact answers w s x) Y s'))
        (operand_fact_same w y s s' (among_more P N inside y hy) agree)
        (held_with_agrees x pred y w (operand_fact answers w s x) (operand_fact answers w s y) s s' hx hy agree))

    both_agree : (x y : Operand) (want : Want V) (s s' : State) → IsAmong P x → IsAmong P y → AgreeOn N s s' →
        EntriesAgree N (narrowed_both answers narrow x y want s) (narrowed_both answers narrow x y want s')
    both_agree x y want s s' hx hy agree =
        then_agree N _ _ (narrowed_operand answers narrow y 1 want) (operand_agrees x 1 want s s' hx agree) (λ t t' agree'. operand_agrees y 1 want t t' hy agree')

    choose : {K : Type 0} (Q : K → Type 0) (b : Bool) (k k' : K) → Q k → Q k' → Q (if b then k else k')
    choose Q true k k' h h' = h
    choose Q false k k' h h' = h'

    module _ (s s' : State) (agree : AgreeOn N s s') where
      sum_agrees : (w : ℕ) (a b : Operand) (d : V) → IsAmong P a → IsAmong P b →
          EntriesAgree N (carried_out answers narrow (of_sum w a b d) s) (carried_out answers narrow (of_sum w a b d) s')
      sum_agrees w (Operand.Value v) (Operand.Literal c) d ha hb = operand_agrees (Operand.Value v) w (Want.Moved d c) s s' ha agree
      sum_agrees w (Operand.Literal e) (Operand.Literal c) d ha hb = operand_agrees (Operand.Literal e) w (Want.Moved d c) s s' tt agree
      sum_agrees w Operand.Poison (Operand.Literal c) d ha hb = operand_agrees Operand.Poison w (Want.Moved d c) s s' tt agree
      sum_agrees w (Operand.Literal e) (Operand.Value v) d ha hb = operand_agrees (Operand.Value v) w (Want.Moved d e) s s' hb agree
      sum_agrees w (Operand.Literal e) Operand.Poison d ha hb = operand_agrees Operand.Poison w (Want.Moved d e) s s' tt agree
      sum_agrees w (Operand.Value v) (Operand.Value u) d ha hb = agree
      sum_agrees w (Operand.Value v) Operand.Poison d ha hb = agree
      sum_agrees w Operand.Poison (Operand.Value v) d ha hb = agree
      sum_agrees w Operand.Poison Operand.Poison d ha hb = agree

      both_true_agree : (w n : ℕ) (a b : Operand) → IsAmong P a → IsAmong P b →
          EntriesAgree N (carried_out answers narrow (both_true answers w a b n) s) (carried_out answers narrow (both_true answers w a b n) s')
      both_true_agree w n a b ha hb = choose (λ k. EntriesAgree N (carried_out answers narrow k s) (carried_out answers narrow k s')) (nat_eq w 1 && nat_eq n 1) _ _ (both_agree a b (equal_bit answers 1) s s' ha hb agree) agree

      and_agrees : (w : ℕ) (a b : Operand) (n : ℕ) → IsAmong P a → IsAmong P b →
          EntriesAgree N (carried_out answers narrow (of_and answers w a b n) s) (carried_out answers narrow (of_and answers w a b n) s')
      and_agrees w (Operand.Value v) (Operand.Literal c) n ha hb = choose (λ k. EntriesAgree N (carried_out answers narrow k s) (carried_out answers narrow k s')) (nat_eq (bit_and n c) n) _ _ (operand_agrees (Operand.Value v) w (Want.Bits c n) s s' ha agree) tt
      and_agrees w (Operand.Literal e) (Operand.Literal c) n ha hb = choose (λ k. EntriesAgree N (carried_out answers narrow k s) (carried_out answers narrow k s')) (nat_eq (bit_and n c) n) _ _ (operand_agrees (Operand.Literal e) w (Want.Bits c n) s s' tt agree) tt
      and_agrees w Operand.Poison (Operand.Literal c) n ha hb = choose (λ k. EntriesAgree N (carried_out answers narrow k s) (carried_out answers narrow k s')) (nat_eq (bit_and n c) n) _ _ (operand_agrees Operand.Poison w (Want.Bits c n) s s' tt agree) tt
      and_agrees w (Operand.Literal e) (Operand.Value v) n ha hb = choose (λ k. EntriesAgree N (carried_out answers narrow k s) (carried_out answers narrow k s')) (nat_eq (bit_and n e) n) _ _ (operand_agrees (Operand.Value v) w (Want.Bits e n) s s' hb agree) tt
      and_agrees w (Operand.Literal e) Operand.Poison n ha hb = choose (λ k. EntriesAgree N (carried_out answers narrow k s) (carried_out answers narrow k s')) (nat_eq (bit_and n e) n) _ _ (operand_agrees Operand.Poison w (Want.Bits e n) s s' tt agree) tt
      and_agrees w (Operand.Value v) (Operand.Value u) n ha hb = both_true_agree w n (Operand.Value v) (Operand.Value u) ha hb
      and_agrees w (Operand.Value v) Operand.Poison n ha hb = both_true_agree w n (Operand.Value v) Operand.Poison ha hb
      and_agrees w Operand.Poison (Operand.Value v) n ha hb = both_true_agree w n Operand.Poison (Operand.Value v) ha hb
      and_agrees w Operand.Poison Operand.Poison n ha hb = both_true_agree w n Operand.Poison Operand.Poison ha hb

      xor_agrees : (w : ℕ) (a b : Operand) (n : ℕ) → IsAmong P a → IsAmong P b →
          EntriesAgree N (carried_out answers narrow (of_xor answers w a b n) s) (carried_out answers narrow (of_xor answers w a b n) s')
      xor_agrees w (Operand.Value v) (Operand.Literal c) n ha hb = choose (λ k. EntriesAgree N (carried_out answers narrow k s) (carried_out answers narrow k s')) (nat_eq w 1 && nat_eq c 1) _ _ (operand_agrees (Operand.Value v) w (equal_bit answers (if nat_eq n 0 then 1 else 0)) s s' ha agree) agree
      xor_agrees w (Operand.Literal e) (Operand.Literal c) n ha hb = choose (λ k. EntriesAgree N (carried_out answers narrow k s) (carried_out answers narrow k s')) (nat_eq w 1 && nat_eq c 1) _ _ (operand_agrees (Operand.Literal e) w (equal_bit answers (if nat_eq n 0 then 1 else 0)) s s' tt agree) agree
      xor_agrees w Operand.Poison (Operand.Literal c) n ha hb = choose (λ k. EntriesAgree N (carried_out answers narrow k s) (carried_out answers narrow k s')) (nat_eq w 1 && nat_eq c 1) _ _ (operand_agrees Operand.Poison w (equal_bit answers (if nat_eq n 0 then 1 else 0)) s s' tt agree) agree
      xor_agrees w (Operand.Literal e) (Operand.Value v) n ha hb = choose (λ k. EntriesAgree N (carried_out answers narrow k s) (carried_out answers narrow k s')) (nat_eq w 1 && nat_eq e 1) _ _ (operand_agrees (Operand.Value v) w (equal_bit answers (if nat_eq n 0 then 1 else 0)) s s' hb agree) agree
      xor_agrees w (Operand.Literal e) Operand.Poison n ha hb = choose (λ k. EntriesAgree N (carried_out answers narrow k s) (carried_out answers narrow k s')) (nat_eq w 1 && nat_eq e 1) _ _ (operand_agrees Operand.Poison w (equal_bit answers (if nat_eq n 0 then 1 else 0)) s s' tt agree) agree
      xor_agrees w (Operand.Value v) (Operand.Value u) n ha hb = agree
      xor_agrees w (Operand.Value v) Operand.Poison n ha hb = agree
      xor_agrees w Operand.Poison (Operand.Value v) n ha hb = agree
      xor_agrees w Operand.Poison Operand.Poison n ha hb = agree

      or_agrees : (w : ℕ) (a b : Operand) (n : ℕ) → IsAmong P a → IsAmong P b →
          EntriesAgree N (carried_out answers narrow (of_or answers w a b n) s) (carried_out answers narrow (of_or answers w a b n) s')
      or_agrees w a b n ha hb = choose (λ k. EntriesAgree N (carried_out answers narrow k s) (carried_out answers narrow k s')) (nat_eq w 1 && nat_eq n 0) _ _ (both_agree a b (equal_bit answers 0) s s' ha hb agree) agree

      -- each where the name has one number
      and_by_one : (w : ℕ) (a b : Operand) (o : Option ℕ) → IsAmong P a → IsAmong P b →
          EntriesAgree N (carried_out answers narrow (from_number (of_and answers w a b) o) s) (carried_out answers narrow (from_number (of_and answers w a b) o) s')
      and_by_one w a b None ha hb = agree
      and_by_one w a b (Some n) ha hb = and_agrees w a b n ha hb

      or_by_one : (w : ℕ) (a b : Operand) (o : Option ℕ) → IsAmong P a → IsAmong P b →
          EntriesAgree N (carried_out answers narrow (from_number (of_or answers w a b) o) s) (carried_out answers narrow (from_number (of_or answers w a b) o) s')
      or_by_one w a b None ha hb = agree
      or_by_one w a b (Some n) ha hb = or_agrees w a b n ha hb

      xor_by_one : (w : ℕ) (a b : Operand) (o : Option ℕ) → IsAmong P a → IsAmong P b →
          EntriesAgree N (carried_out answers narrow (from_number (of_xor answers w a b) o) s) (carried_out answers narrow (from_number (of_xor answers w a b) o) s')
      xor_by_one w a b None ha hb = agree
      xor_by_one w a b (Some n) ha hb = xor_agrees w a b n ha hb

      binary_agrees : (bin : Bin) (w : ℕ) (a b : Operand) (d : V) → IsAmong P a → IsAmong P b →
          EntriesAgree N (carried_out answers narrow (of_binary answers bin w a b d) s) (carried_out answers narrow (of_binary answers bin w a b d) s')
      binary_agrees Bin.Add w a b d ha hb = sum_agrees w a b d ha hb
      binary_agrees Bin.And w a b d ha hb = and_by_one w a b (answers.single d) ha hb
      binary_agrees Bin.Or w a b d ha hb = or_by_one w a b (answers.single d) ha hb
      binary_agrees Bin.Xor w a b d ha hb = xor_by_one w a b (answers.single d) ha hb
      binary_agrees Bin.Sub w a b d ha hb = agree
      binary_agrees Bin.Mul w a b d ha hb = agree
      binary_agrees Bin.Shl w a b d ha hb = agree
      binary_agrees Bin.Udiv w a b d ha hb = agree
      binary_agrees Bin.Sdiv w a b d ha hb = agree
      binary_agrees Bin.Lshr w a b d ha hb = agree
      binary_agrees Bin.Ashr w a b d ha hb = agree
      binary_agrees Bin.Urem w a b d ha hb = agree
      binary_agrees Bin.Srem w a b d ha hb = agree

      conversion_agrees : (cast : Cast) (from to : ℕ) (a : Operand) (o : Option ℕ) → IsAmong P a →
          EntriesAgree N (carried_out answers narrow (from_number (of_conversion cast from to a) o) s) (carried_out answers narrow (from_number (of_conversion cast from to a) o) s')
      conversion_agrees cast from to a None h = agree
      conversion_agrees Cast.Zext from to a (Some n) h = agree
      conversion_agrees Cast.Sext from to a (Some n) h = agree
      conversion_agrees Cast.Trunc from to a (Some n) h = choose (λ k. EntriesAgree N (carried_out answers narrow k s) (carried_out answers narrow k s')) (nat_eq to 1) _ _ (operand_agrees a from (Want.Bits 1 n) s s' h agree) agree

      comparison_agrees : ((v : ℕ) → P v → N v) → (pred : Pred) (w : ℕ) (a b : Operand) (o : Option ℕ) → IsAmong P a → IsAmong P b →
          EntriesAgree N (carried_out answers narrow (from_number (of_comparison pred w a b) o) s) (carried_out answers narrow (from_number (of_comparison pred w a b) o) s')
      comparison_agrees inside pred w a b None ha hb = agree
      comparison_agrees inside pred w a b (Some n) ha hb = held_agrees inside a (if nat_eq n 0 then negated pred else pred) b w s s' ha hb agree

      select_agrees : (w : ℕ) (c a b : Operand) (o : Option ℕ) → IsAmong P c → IsAmong P a → IsAmong P b →
          EntriesAgree N (carried_out answers narrow (from_number (of_select answers w c a b) o) s) (carried_out answers narrow (from_number (of_select answers w c a b) o) s')
      select_agrees w c a b None hc ha hb = agree
      select_agrees w c a b (Some n) hc ha hb =
          choose (λ k. EntriesAgree N (carried_out answers narrow k s) (carried_out answers narrow k s')) (nat_eq w 1) _ _
          (choose (λ k. EntriesAgree N (carried_out answers narrow k s) (carried_out answers narrow k s')) (nat_eq n 1 && is_literal 0 b) _ _ (both_agree c a (equal_bit answers 1) s s' hc ha agree)
          (choose (λ k. EntriesAgree N (carried_out answers narrow k s) (carried_out answers narrow k s')) (nat_eq n 0 && is_literal 1 a) _ _ (both_agree c b (equal_bit answers 0) s s' hc hb agree) agree))
          agree

      carried_agrees : ((v : ℕ) → P v → N v) → (op : Op) (d : V) → AreAmong P op →
          EntriesAgree N (carried_out answers narrow (consequence_of answers op d) s) (carried_out answers narrow (consequence_of answers op d) s')
      carried_agrees inside (Op.Bin bin flags w a b) d h = binary_agrees bin w a b d h.a h.b
      carried_agrees inside (Op.Icmp pred samesign w a b) d h = comparison_agrees inside pred w a b (answers.single d) h.a h.b
      carried_agrees inside (Op.Select w c a b) d h = select_agrees w c a b (answers.single d) h.c h.a h.b
      carried_agrees inside (Op.Cast cast flags from to a) d h = conversion_agrees cast from to a (answers.single d) h.a
      carried_agrees inside (Op.Freeze w a) d h = agree
      carried_agrees inside (Op.Two fun w a b) d h = agree
      carried_agrees inside (Op.One fun w a strict) d h = agree
      carried_agrees inside (Op.Over over w a b) d h = agree
      carried_agrees inside (Op.Part w pair index) d h = agree
      carried_agrees inside (Op.Assume c) d h = agree
      carried_agrees inside (Op.Call width call) d h = agree

  -- what follows from a new fact of a name, where this is so for each name
  abbrev FollowingAgrees : ℕ → (ℕ → V → Change V) → Type 0
  FollowingAgrees left follow = (v : ℕ) (d : V) (s s' : State) → IsClosed f N left v → AgreeOn N s s' → EntriesAgree N (follow v d s) (follow v d s')

  module _ (left : ℕ) (follow : ℕ → V → Change V) (agrees : FollowingAgrees left follow) where
    kept_agrees : (v : ℕ) (o : Option V) (s s' : State) → IsClosed f N left v → AgreeOn N s s' → EntriesAgree N (kept_by (follow v) v o s) (kept_by (follow v) v o s')
    kept_agrees v None s s' closed agree = tt
    kept_agrees v (Some e) s s' closed agree = agrees v e (with_fact s v (Some e)) (with_fact s' v (Some e)) closed (with_fact_agree N s s' v (Some e) agree)

    narrowed_by_agrees : (v : ℕ) (want : Want V) (o : Option V) (s s' : State) → IsClosed f N left v → AgreeOn N s s' →
        EntriesAgree N (narrowed_by answers (follow v) v want o s) (narrowed_by answers (follow v) v want o s')
    narrowed_by_agrees v want None s s' closed agree = agree
    narrowed_by_agrees v want (Some d) s s' closed agree = kept_agrees v (kept answers d want) s s' closed agree

    narrowing_agrees : NarrowingAgrees (IsClosed f N left) (λ v want s. narrowed_by answers (follow v) v want (s.fact v) s)
    narrowing_agrees v want s s' closed agree =
        subst (λ o. EntriesAgree N (narrowed_by answers (follow v) v want (s.fact v) s) (narrowed_by answers (follow v) v want o s'))
        ((agree v (closed_self f N left v closed)).0) (narrowed_by_agrees v want (s.fact v) s s' closed agree)

  -- the operands of an equation are one step nearer
  operands_closed : (left v : ℕ) (op : Op) → equation f v ≡ Some op → IsClosed f N (suc left) v → AreAmong (IsClosed f N left) op
  operands_closed left v op is closed =
      are_among_more (λ u. IsTrue (is_in u (op_names f op))) (IsClosed f N left)
      (λ u member w follows. closed w (Follows.through left v u w op (record { equation = is; mentioned = member }) follows)) op (operands_among f op)

  equation_agrees : (left : ℕ) (narrow : Narrowing V) → NarrowingAgrees (IsClosed f N left) narrow → (v : ℕ) (d : V) (o : Option Op) →
      ((op : Op) → o ≡ Some op → equation f v ≡ Some op) → (s s' : State) → IsClosed f N (suc left) v → AgreeOn N s s' →
      EntriesAgree N (by_equation answers narrow d o s) (by_equation answers narrow d o s')
  equation_agrees left narrow agrees v d None of s s' closed agree = agree
  equation_agrees left narrow agrees v d (Some op) of s s' closed agree =
      carried_agrees (IsClosed f N left) narrow agrees s s' agree (closed_self f N left) op d (operands_closed left v op (of op refl) closed)

  live_is : (v : ℕ) (b : Bool) (op : Op) → (if b then equation f v else None) ≡ Some op → equation f v ≡ Some op
  live_is v true op e = e
  live_is v false op e = absurd cc

  followed_agrees : (left : ℕ) → FollowingAgrees left (followed answers f left)
  unfolding followed
  followed_agrees zero v d s s' closed agree = agree
  followed_agrees (suc left) v d s s' closed agree =
      subst (λ b. EntriesAgree N
      (by_equation answers (λ u want t. narrowed_by answers (followed answers f left u) u want (t.fact u) t) d (live_equation f s v) s)
      (by_equation answers (λ u want t. narrowed_by answers (followed answers f left u) u want (t.fact u) t) d (if b then equation f v else None) s'))
      ((agree v (closed_self f N (suc left) v closed)).1)
      (equation_agrees left _ (narrowing_agrees left (followed answers f left) (followed_agrees left)) v d (live_equation f s v) (live_is v (s.live v)) s s' closed agree)

  pub narrowed_agrees : (left : ℕ) → NarrowingAgrees (IsClosed f N left) (narrowed answers f left)
  narrowed_agrees left = narrowing_agrees left (followed answers f left) (followed_agrees left)
