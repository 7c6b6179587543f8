-- The names that have facts: at the entry of a block exactly those in scope there. Instructions and phis add their results,
-- edges and joins keep what is common, and the entry of a block cuts the rest.
use Rattle.std.proofs.Common.{◌≡◌, ◌&&◌, ◌⊎◌, not, ℕ, zero, suc, Bool, true, false, nat_eq, if◌then◌else◌, Option, Some, None, is_some, List, [], ◌∷◌, map, slice_get, refl, sym, ◌∙◌, ap, subst, inl, inr, eqb-true, eq-eqb}
use Rattle.std.specs.Option.{ForSome, IsSome, option_map}
use Rattle.std.specs.List.{AllByRecursion, cons_option}
use Rattle.std.proofs.lemmas.Option.{same_Some}
use Rattle.vfa_ir.specs.declared.operations.BlockId.{BlockId}
use Rattle.vfa_ir.specs.declared.operations.Op.{Op}
use Rattle.vfa_ir.specs.declared.operations.Operand.{Operand}
use Rattle.vfa_ir.specs.declared.operations.ValueId.{ValueId}
use Rattle.vfa_ir.specs.declared.functions.Block.{Block}
use Rattle.vfa_ir.specs.declared.functions.Function.{Function}
use Rattle.vfa_ir.specs.declared.functions.Inst.{Inst}
use Rattle.vfa_ir.specs.declared.functions.Phi.{Phi}
use Rattle.vfa_ir.specs.declared.functions.Term.{Term}
use Rattle.vfa_ir.specs.Printable.{inst_ids}
use Rattle.vfa_ir.specs.Words.{is_in}
use Rattle.vfa_cfg.specs.declared.listing.Edge.{Edge}
use Rattle.vfa_cfg.specs.declared.listing.Way.{Way}
use Rattle.vfa_cfg.proofs.Members.{first_or_rest}
use Rattle.vfa_mean.specs.Moments.{is_call, IsLine}
use Rattle.vfa_values.specs.Answers.{Answers}
use Rattle.vfa_cond.specs.declared.want.Want.{Want}
use Rattle.vfa_cond.specs.Equations.{is_result, is_definition, equation, equation_among, equation_in, or_else}
use Rattle.vfa_cond.specs.Narrowing.{Change, and_then, deepest}
use Rattle.vfa_cond.specs.States.{AbstractState, KeepsNames, with_live}
use Rattle.vfa_cond.specs.Wants.{kept}
use Rattle.vfa_cond.proofs.Fitting.{some_of, none_of, and_first, and_second}
use Rattle.vfa_cond.proofs.Names.{narrowed_keeps}
use Rattle.vfa_walk.specs.Passes.{merged}
use Rattle.vfa_walk.specs.Stepping.{result_fact, mentions, redefined, with_result, is_division, told, told_apart, survived, after_inst, after_insts}
use Rattle.vfa_walk.specs.Joining.{of_both, covered, joined}
use Rattle.vfa_walk.specs.Leaving.{told_no_case, told_case, along_way, along_edge, joined_edges, edges_out, paired, phi_fact, assigned}
use Rattle.vfa_walk.specs.Tables.{AreLive}
use Rattle.vfa_walk.proofs.TruthKept.{merged_is, mapped_is, choice_is}

-- The state has a fact of each of these names, and each live name has a fact and an equation.
pub record Knows {V : Type 0} (f : Function) (P : ℕ → Type 0) (s : AbstractState V) : Type 0 where
  pub names : (v : ℕ) → P v → is_some (s.fact v) ≡ true
  pub live : AreLive f s

-- the result of the instruction, if it is no call, has an equation
abbrev pub HasOwnEquation : Function → Inst → Type 0
HasOwnEquation f i = (r : ValueId) → i.result ≡ Some r → is_call i.op ≡ false → IsSome (equation f r.0)

-- ---- equations of results

some_else : (a b : Option Op) → is_some a ≡ true → is_some (or_else a b) ≡ true
some_else None b h = absurd cc
some_else (Some op) b h = refl

else_some : (a b : Option Op) → is_some b ≡ true → is_some (or_else a b) ≡ true
else_some None b h = h
else_some (Some op) b h = refl

found_among : (v : ℕ) (insts : List Inst) (i : ℕ) (inst : Inst) → slice_get insts i ≡ Some inst → is_definition v inst ≡ true → is_some (equation_among v insts) ≡ true
found_among v [] i inst e d = absurd cc
found_among v (j ∷ rest) zero inst e d =
    let here : is_definition v j ≡ true = ap (is_definition v) (same_Some j inst e) ∙ d in
    ap (λ b. is_some (if b then Some j.op else equation_among v rest)) here
found_among v (j ∷ rest) (suc i) inst e d = of (is_definition v j) (found_among v rest i inst e d)
  where
    of : (b : Bool) → is_some (equation_among v rest) ≡ true → is_some (if b then Some j.op else equation_among v rest) ≡ true
    of true h = refl
    of false h = h

found_in : (v : ℕ) (blocks : List Block) (b i : ℕ) (block : Block) (inst : Inst) → slice_get blocks b ≡ Some block → slice_get block.insts i ≡ Some inst → is_definition v inst ≡ true → is_some (equation_in v blocks) ≡ true
found_in v [] b i block inst there stands d = absurd cc
found_in v (c ∷ rest) zero i block inst there stands d =
    some_else (equation_among v c.insts) (equation_in v rest)
    (subst (λ (x : Block). is_some (equation_among v x.insts) ≡ true) (sym (same_Some c block there)) (found_among v block.insts i inst stands d))
found_in v (c ∷ rest) (suc b) i block inst there stands d = else_some (equation_among v c.insts) (equation_in v rest) (found_in v rest b i block inst there stands d)

pub has_own_equation : (f : Function) (b i : ℕ) (block : Block) (inst : Inst) → IsLine f b block i inst → HasOwnEquation f inst
has_own_equation f b i block inst line r e no_call =
    found_in r.0 f.blocks b i block inst line.there line.stands (both (is_call inst.op) inst.result no_call e)
  where
    both : (c : Bool) (o : Option ValueId) → c ≡ false → o ≡ Some r → (not c && is_result r.0 o) ≡ true
    both true o h e = absurd cc
    both false None h e = absurd cc
    both false (Some q) h e = eq-eqb q.0 r.0 (ap (λ (x : ValueId). x.0) (same_Some q r e))

module _ {V : Type 0} (answers : Answers V) (f : Function) where
  weaker : (P Q : ℕ → Type 0) (s : AbstractState V) → ((v : ℕ) → Q v → P v) → Knows f P s → Knows f Q s
  weaker P Q s less knows = record { names = λ v q. knows.names v (less v q); live = knows.live }

  weaker_some : (P Q : ℕ → Type 0) (o : Option (AbstractState V)) → ((v : ℕ) → Q v → P v) → ForSome o (Knows f P) → ForSome o (Knows f Q)
  weaker_some P Q o less knows s e = weaker P Q s less (knows s e)

  -- ---- narrowing

  stays : (s : AbstractState V) → KeepsNames s s
  stays s = record { facts = λ v. refl; live = λ v. refl }

  in_turn : (s t u : AbstractState V) → KeepsNames s t → KeepsNames t u → KeepsNames s u
  in_turn s t u first second = record { facts = λ v. second.facts v ∙ first.facts v; live = λ v. second.live v ∙ first.live v }

  keeps_knows : (P : ℕ → Type 0) (s t : AbstractState V) → KeepsNames s t → Knows f P s → Knows f P t
  keeps_knows P s t keeps knows = record {
    names = λ v p. keeps.facts v ∙ knows.names v p;
    live = λ v live. let was = knows.live v (sym (keeps.live v) ∙ live) in (keeps.facts v ∙ was.0, was.1);
  }

  keeps_some : (P : ℕ → Type 0) (s : AbstractState V) (o : Option (AbstractState V)) → ForSome o (KeepsNames s) → Knows f P s → ForSome o (Knows f P)
  keeps_some P s o keeps knows t e = keeps_knows P s t (keeps t e) knows

  then_keeps : (s : AbstractState V) (o : Option (AbstractState V)) (next : Change V) → ForSome o (KeepsNames s) → ((t : AbstractState V) → ForSome (next t) (KeepsNames t)) → ForSome (and_then o next) (KeepsNames s)
  then_keeps s None next first second = none_of (KeepsNames s)
  then_keeps s (Some t) next first second = λ u e. in_turn s t u (first t refl) (second t u e)

  told_keeps : (x : Operand) (w : ℕ) (want : Want V) (s : AbstractState V) → ForSome (told answers f x w want s) (KeepsNames s)
  told_keeps (Operand.Value v) w want s = narrowed_keeps answers f deepest v.0 want s
  told_keeps (Operand.Literal bits) w want s = choice_is (λ o. ForSome o (KeepsNames s)) (is_some (kept answers (answers.literal w bits) want)) (Some s) None (some_of (KeepsNames s) s (stays s)) (none_of (KeepsNames s))
  told_keeps Operand.Poison w want s = none_of (KeepsNames s)

  same : (s : AbstractState V) → ForSome (Some s) (KeepsNames s)
  same s = some_of (KeepsNames s) s (stays s)

  survived_keeps : (s : AbstractState V) (op : Op) → ForSome (survived answers f op s) (KeepsNames s)
  survived_keeps s (Op.Bin bin flags w a b) = choice_is (λ o. ForSome o (KeepsNames s)) (is_division bin) (told_apart answers f b w 0 s) (Some s) (told_keeps b w _ s) (same s)
  survived_keeps s (Op.Icmp pred samesign w a b) = same s
  survived_keeps s (Op.Select w c a b) = same s
  survived_keeps s (Op.Cast cast flags from to a) = same s
  survived_keeps s (Op.Freeze w a) = same s
  survived_keeps s (Op.Two fun w a b) = same s
  survived_keeps s (Op.One fun w a strict) = same s
  survived_keeps s (Op.Over over w a b) = same s
  survived_keeps s (Op.Part w pair index) = same s
  survived_keeps s (Op.Assume c) = told_keeps c 1 _ s
  survived_keeps s (Op.Call width place) = same s

  -- ---- a name gets a value

  given_or_was : (b : Bool) (d : V) (o : Option V) → is_some o ≡ true → is_some (if b then Some d else o) ≡ true
  given_or_was true d o h = refl
  given_or_was false d o h = h

  pub redefined_knows : (P : ℕ → Type 0) (s : AbstractState V) (x : ℕ) (d : V) → Knows f P s → Knows f (λ v. P v ⊎ (v ≡ x)) (redefined f x d s)
  redefined_knows P s x d knows = record {
    names = λ v p. elim p [
      | inl was ↦ given_or_was (nat_eq v x) d (s.fact v) (knows.names v was)
      | inr is ↦ ap (λ b. is_some (if b then Some d else s.fact v)) (eq-eqb v x is)
    ];
    live = λ v live.
        let was = knows.live v (and_first (s.live v) (not (mentions f v x)) live) in
        (given_or_was (nat_eq v x) d (s.fact v) was.0, was.1);
  }

  defined_knows : (P : ℕ → Type 0) (s : AbstractState V) (x : ℕ) (d : V) → IsSome (equation f x) → Knows f P s → Knows f (λ v. P v ⊎ (v ≡ x)) (with_live (redefined f x d s) x true)
  defined_knows P s x d own knows =
      let new = redefined_knows P s x d knows in
      record { names = new.names; live = λ v live. by v (nat_eq v x) refl live }
    where
      by : (v : ℕ) (b : Bool) → nat_eq v x ≡ b → (if b then true else (redefined f x d s).live v) ≡ true → IsSome ((redefined f x d s).fact v) × IsSome (equation f v)
      by v true e live = (ap (λ b. is_some (if b then Some d else s.fact v)) e, subst (λ k. IsSome (equation f k)) (sym (eqb-true v x e)) own)
      by v false e live = (redefined_knows P s x d knows).live v live

  result_knows : (P : ℕ → Type 0) (s : AbstractState V) (op : Op) (result : Option ValueId) → ((r : ValueId) → result ≡ Some r → is_call op ≡ false → IsSome (equation f r.0)) → Knows f P s →
      Knows f (λ v. P v ⊎ (Some v ≡ option_map (λ (r : ValueId). r.0) result)) (with_result answers f op result s)
  result_knows P s op None own knows = weaker P (λ v. P v ⊎ (Some v ≡ None)) s (λ v p. elim p [ inl was ↦ was | inr e ↦ absurd cc ]) knows
  result_knows P s op (Some r) own knows = of (is_call op) refl
    where
      d : V
      d = result_fact answers f op s

      Q : ℕ → Type 0
      Q v = P v ⊎ (Some v ≡ Some r.0)

      less : (v : ℕ) → Q v → P v ⊎ (v ≡ r.0)
      less v (inl was) = inl was
      less v (inr e) = inr (same_Some v r.0 e)

      of : (c : Bool) → is_call op ≡ c → Knows f Q (if c then redefined f r.0 d s else with_live (redefined f r.0 d s) r.0 true)
      of true e = weaker (λ v. P v ⊎ (v ≡ r.0)) Q (redefined f r.0 d s) less (redefined_knows P s r.0 d knows)
      of false e = weaker (λ v. P v ⊎ (v ≡ r.0)) Q (with_live (redefined f r.0 d s) r.0 true) less (defined_knows P s r.0 d (own r refl e) knows)

  inst_knows : (P : ℕ → Type 0) (s : AbstractState V) (inst : Inst) → HasOwnEquation f inst → Knows f P s → ForSome (after_inst answers f inst s) (Knows f (λ v. P v ⊎ (Some v ≡ option_map (λ (r : ValueId). r.0) inst.result)))
  inst_knows P s inst own knows =
      mapped_is (Knows f P) (Knows f (λ v. P v ⊎ (Some v ≡ option_map (λ (r : ValueId). r.0) inst.result))) (with_result answers f inst.op inst.result) (survived answers f inst.op s)
      (λ t knows'. result_knows P t inst.op inst.result own knows') (keeps_some P s (survived answers f inst.op s) (survived_keeps s inst.op) knows)

  pub insts_know : (P : ℕ → Type 0) (insts : List Inst) (s : AbstractState V) → AllByRecursion (HasOwnEquation f) insts → Knows f P s → ForSome (after_insts answers f insts s) (Knows f (λ v. P v ⊎ (is_in v (inst_ids insts) ≡ true)))
  insts_know P [] s own knows = some_of (Knows f (λ v. P v ⊎ (is_in v [] ≡ true))) s (weaker P (λ v. P v ⊎ (is_in v [] ≡ true)) s (λ v p. elim p [ inl was ↦ was | inr e ↦ absurd cc ]) knows)
  insts_know P (i ∷ rest) s own knows = of (after_inst answers f i s) (inst_knows P s i own.0 knows) (λ t knows'. insts_know (λ v. P v ⊎ (Some v ≡ option_map (λ (r : ValueId). r.0) i.result)) rest t own.1 knows')
    where
      Here : ℕ → Type 0
      Here v = P v ⊎ (Some v ≡ option_map (λ (r : ValueId). r.0) i.result)

      less : (o : Option ValueId) (v : ℕ) → (P v ⊎ (is_in v (cons_option (elim o [ None ↦ None | Some r ↦ Some r.0 ]) (inst_ids rest)) ≡ true)) → (P v ⊎ (Some v ≡ option_map (λ (r : ValueId). r.0) o)) ⊎ (is_in v (inst_ids rest) ≡ true)
      less o v (inl was) = inl (inl was)
      less None v (inr e) = inr e
      less (Some r) v (inr e) = elim (first_or_rest v r.0 (inst_ids rest) e) [ inl is ↦ inl (inr (ap Some is)) | inr later ↦ inr later ]

      Next : ℕ → Type 0
      Next v = P v ⊎ (is_in v (inst_ids (i ∷ rest)) ≡ true)

      of : (o : Option (AbstractState V)) → ForSome o (Knows f Here) → ((t : AbstractState V) → Knows f Here t → ForSome (after_insts answers f rest t) (Knows f (λ v. Here v ⊎ (is_in v (inst_ids rest) ≡ true)))) →
          ForSome (and_then o (after_insts answers f rest)) (Knows f Next)
      of None first later = none_of (Knows f Next)
      of (Some t) first later =
          weaker_some (λ v. Here v ⊎ (is_in v (inst_ids rest) ≡ true)) Next (after_insts answers f rest t) (less i.result) (later t (first t refl))

  -- ---- edges

  no_case_keeps : (on : Operand) (w : ℕ) (cases : List (ℕ × BlockId)) (s : AbstractState V) → ForSome (told_no_case answers f on w cases s) (KeepsNames s)
  no_case_keeps on w [] s = same s
  no_case_keeps on w (c ∷ rest) s = then_keeps s (told_apart answers f on w c.0 s) (told_no_case answers f on w rest) (told_keeps on w _ s) (no_case_keeps on w rest)

  case_keeps : (on : Operand) (w : ℕ) (o : Option (ℕ × BlockId)) (s : AbstractState V) → ForSome (told_case answers f on w o s) (KeepsNames s)
  case_keeps on w None s = same s
  case_keeps on w (Some c) s = told_keeps on w _ s

  way_keeps : (term : Term) (way : Way) (s : AbstractState V) → ForSome (along_way answers f term way s) (KeepsNames s)
  way_keeps (Term.Ret w a) way s = same s
  way_keeps (Term.Br to) way s = same s
  way_keeps (Term.CondBr c taken fallen) Way.Yes s = told_keeps c 1 _ s
  way_keeps (Term.CondBr c taken fallen) Way.No s = told_keeps c 1 _ s
  way_keeps (Term.CondBr c taken fallen) Way.Always s = same s
  way_keeps (Term.CondBr c taken fallen) Way.Other s = same s
  way_keeps (Term.CondBr c taken fallen) (Way.Case k) s = same s
  way_keeps (Term.Switch w on other cases) Way.Other s = no_case_keeps on w cases s
  way_keeps (Term.Switch w on other cases) (Way.Case k) s = case_keeps on w (slice_get cases k) s
  way_keeps (Term.Switch w on other cases) Way.Yes s = same s
  way_keeps (Term.Switch w on other cases) Way.No s = same s
  way_keeps (Term.Switch w on other cases) Way.Always s = same s
  way_keeps Term.Unreachable way s = same s

  edge_keeps : (e : Edge) (s : AbstractState V) → ForSome (along_edge answers f e s) (KeepsNames s)
  edge_keeps e s = of (slice_get f.blocks e.from.0)
    where
      of : (o : Option Block) → ForSome (elim o [ None ↦ Some s | Some block ↦ along_way answers f block.term e.way s ]) (KeepsNames s)
      of None = same s
      of (Some block) = way_keeps block.term e.way s

  both_some : (cover : V → V → V) (o o' : Option V) → is_some o ≡ true → is_some o' ≡ true → is_some (of_both cover o o') ≡ true
  both_some cover None o' h h' = absurd cc
  both_some cover (Some a) None h h' = absurd cc
  both_some cover (Some a) (Some b) h h' = refl

  pub covered_knows : (P : ℕ → Type 0) (cover : ℕ → V → V → V) (s t : AbstractState V) → Knows f P s → Knows f P t → Knows f P (covered cover s t)
  covered_knows P cover s t first second = record {
    names = λ v p. both_some (cover v) (s.fact v) (t.fact v) (first.names v p) (second.names v p);
    live = λ v live.
        let a = first.live v (and_first (s.live v) (t.live v) live) in
        let b = second.live v (and_second (s.live v) (t.live v) live) in
        (both_some (cover v) (s.fact v) (t.fact v) a.0 b.0, a.1);
  }

  pub paired_knows : (P : ℕ → Type 0) (from to : ℕ) (s : AbstractState V) → Knows f P s → ForSome (paired answers f from to s) (Knows f P)
  paired_knows P from to s knows = edges (edges_out f from) None (none_of (Knows f P))
    where
      edges : (list : List Edge) (sum : Option (AbstractState V)) → ForSome sum (Knows f P) → ForSome (joined_edges answers f to s list sum) (Knows f P)
      edges [] sum good = good
      edges (e ∷ rest) sum good =
          edges rest (if nat_eq e.to.0 to then merged (joined answers) sum (along_edge answers f e s) else sum)
          (choice_is (λ o. ForSome o (Knows f P)) (nat_eq e.to.0 to) (merged (joined answers) sum (along_edge answers f e s)) sum
          (merged_is (Knows f P) (joined answers) sum (along_edge answers f e s) (covered_knows P (λ _. answers.join)) good (keeps_some P s (along_edge answers f e s) (edge_keeps e s) knows)) good)

  -- ---- phis

  pub phis_know : (P : ℕ → Type 0) (from : ℕ) (before : AbstractState V) (phis : List Phi) (s : AbstractState V) → Knows f P s →
      Knows f (λ v. P v ⊎ (is_in v (map (λ (p : Phi). p.result.0) phis) ≡ true)) (assigned answers f from before phis s)
  phis_know P from before [] s knows = weaker P (λ v. P v ⊎ (is_in v [] ≡ true)) s (λ v p. elim p [ inl was ↦ was | inr e ↦ absurd cc ]) knows
  phis_know P from before (p ∷ rest) s knows =
      weaker (λ v. (P v ⊎ (v ≡ p.result.0)) ⊎ (is_in v (map (λ (p : Phi). p.result.0) rest) ≡ true)) (λ v. P v ⊎ (is_in v (map (λ (p : Phi). p.result.0) (p ∷ rest)) ≡ true)) _ less
      (phis_know (λ v. P v ⊎ (v ≡ p.result.0)) from before rest (redefined f p.result.0 (phi_fact answers from before p) s) (redefined_knows P s p.result.0 (phi_fact answers from before p) knows))
    where
      less : (v : ℕ) → (P v ⊎ (is_in v (p.result.0 ∷ map (λ (p : Phi). p.result.0) rest) ≡ true)) → (P v ⊎ (v ≡ p.result.0)) ⊎ (is_in v (map (λ (p : Phi). p.result.0) rest) ≡ true)
      less v (inl was) = inl (inl was)
      less v (inr e) = elim (first_or_rest v p.result.0 (map (λ (p : Phi). p.result.0) rest) e) [ inl is ↦ inl (inr is) | inr later ↦ inr later ]
