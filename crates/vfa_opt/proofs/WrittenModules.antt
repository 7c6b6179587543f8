-- Where items lie, and what is written for a module of which they make this.
use Rattle.std.proofs.Common.{◌≡◌, ◌<◌, ◌≤◌, ◌+◌, ◌⊎◌, inl, inr, ℕ, Bool, true, Some, None, IfSome, Result, Ok, Err, List, [], ◌∷◌, length, take, slice_get, All, refl, sym, ap, subst, ◌∙◌, arith}
use Rattle.std.specs.Prelude.{IfOk, IfErr, OnOk}
use Rattle.std.specs.List.{AllByRecursion}
use Rattle.std.proofs.lemmas.List.{length-take}
use Rattle.std.proofs.lemmas.Option.{same_Some}
use Rattle.vfa_ir.specs.declared.reasons.Outside.{Outside}
use Rattle.vfa_ir.specs.DefinedNames.{first_repeated}
use Rattle.vfa_ir.specs.Tokens.{line_feeds}
use Rattle.vfa_module.specs.declared.items.Item.{Item}
use Rattle.vfa_module.specs.Defines.{IsPart}
use Rattle.vfa_module.specs.Split.{Cover, start_of, end_of, split_of}
use Rattle.vfa_opt.specs.declared.jobs.Job.{Job}
use Rattle.vfa_opt.specs.declared.joined.Text.{Text}
use Rattle.vfa_opt.specs.declared.portions.Portion.{Portion}
use Rattle.vfa_opt.specs.declared.refusals.Refused.{Refused}
use Rattle.vfa_opt.specs.declared.writings.Writing.{Writing}
use Rattle.vfa_opt.specs.Module.{Piece, carried_functions, function_named, function_names, Splits, IsModule, IsModuleText}
use Rattle.vfa_opt.specs.Refusals.{Carries, IsModuleRefusal, IsRefusal, IsAnswerable}
use Rattle.vfa_opt.specs.Sound.{IsSoundFor}
use Rattle.vfa_opt.specs.Works.{IsItemOf, IsMade, IsPlaced, IsPortion, IsRefusedFor, IsWritten, item_named, names_of}
use Rattle.vfa_opt.proofs.NamedItems.{named_items, placed_item, same_names}
use Rattle.vfa_opt.proofs.ReasonLines.{feeds_few}
use Rattle.vfa_opt.proofs.Subjects.{apart}

-- ---- items

cover_forward : (from to : ℕ) (items : List Item) → Cover from to items → from ≤ to
cover_forward from to [] c = omega arith
cover_forward from to (i ∷ rest) c = let r : end_of i ≤ to = cover_forward (end_of i) to rest c.2 in let s : from < end_of i = c.1 in omega arith

placed : (input : List ℕ) (i : Item) → IsPart input i → start_of i ≤ end_of i → end_of i ≤ length input → IsPlaced input i
placed input (Item.Lines start end) part a b = record { order = a; within = b }
placed input (Item.Define start end line) part a b =
    let lines : line ≡ 1 + line_feeds (take start input) = part.lines in
    let few : line_feeds (take start input) ≤ length (take start input) = feeds_few (take start input) in
    (record { order = a; within = b }, omega (arith, length-take start input, lines, few))

pub cover_placed : (input : List ℕ) (from : ℕ) (items : List Item) → AllByRecursion (IsPart input) items → Cover from (length input) items →
    AllByRecursion (IsPlaced input) items
cover_placed input from [] parts c = tt
cover_placed input from (i ∷ rest) parts c =
    let r : end_of i ≤ length input = cover_forward (end_of i) (length input) rest c.2 in
    let s : from < end_of i = c.1 in
    let e : start_of i ≡ from = c.0 in
    let o : start_of i ≤ end_of i = omega arith in
    (placed input i parts.0 o r, cover_placed input (end_of i) rest parts.1 c.2)

-- ---- modules

names_same : (writing : Writing) (input : List ℕ) (whole : Portion) (m : IsMade writing input whole) →
    names_of whole.accepted.items ≡ function_names m.makes.pieces
names_same writing input whole m = ap names_of m.makes.functions_are ∙ same_names input m.items m.makes.pieces m.makes.are

none_first : {X : Type 0} (xs : List X) → slice_get xs 0 ≡ None → xs ≡ []
none_first [] e = refl
none_first (x ∷ xs) e = apart (sym e)

some_first : {X : Type 0} (xs : List X) (x : X) → slice_get xs 0 ≡ Some x → (later : List X) × (xs ≡ x ∷ later)
some_first [] x e = apart e
some_first (y ∷ xs) x e = (xs, ap (λ z. z ∷ xs) (same_Some y x e))

module _ (writing : Writing) (strict : Bool) (input : List ℕ) (whole : Portion) (m : IsMade writing input whole) where
  abbrev parts : List Piece
  parts = m.makes.pieces

  abbrev splits : Splits input parts
  splits = record { items = m.items; split = m.split; are = m.makes.are }

  carried_none : (strict ≡ true → whole.first_carried ≡ None) → strict ≡ true → carried_functions parts ≡ []
  carried_none none is = none_first (carried_functions parts) (sym m.makes.first_is ∙ none is)

  written_so : first_repeated [] (names_of whole.accepted.items) ≡ None → (strict ≡ true → whole.first_carried ≡ None) → IsWritten writing strict input whole
  written_so distinct none = record {
    pieces = parts;
    «module» = record {
      splits = splits;
      distinct = ap (first_repeated []) (sym (names_same writing input whole m)) ∙ distinct;
      whole = carried_none none;
    };
    texts = m.makes.texts;
    sound = m.makes.sound;
    notes_are = m.makes.notes_are;
    count = m.makes.count_is;
    named = λ name.
        subst (λ l. IsItemOf input (item_named name l) (function_named name parts)) (sym m.makes.functions_are)
        (named_items name input m.items parts m.makes.are);
    places = λ name.
        subst (λ l. IfSome (item_named name l) (IsPlaced input)) (sym m.makes.functions_are)
        (placed_item name input (IsPlaced input) m.items parts m.makes.are m.places);
  }

  carries_so : (name : List ℕ) (reason : Outside) → first_repeated [] (names_of whole.accepted.items) ≡ None →
      whole.first_carried ≡ Some (record { name = name; reason = reason }) → Carries input name reason
  carries_so name reason distinct is =
      let found = some_first (carried_functions parts) (record { name = name; reason = reason }) (sym m.makes.first_is ∙ is) in record {
        pieces = parts;
        splits = splits;
        distinct = ap (first_repeated []) (sym (names_same writing input whole m)) ∙ distinct;
        later = found.0;
        first = found.1;
      }

  refusal_so : (e : Refused) → IsRefusedFor strict whole e → IsModuleRefusal strict input e
  refusal_so (Refused.Unclosed start) is = absurd is
  refusal_so (Refused.BadLine line) is = absurd is
  refusal_so (Refused.DuplicateFunction name) is =
      record { pieces = parts; splits = splits; repeated = ap (first_repeated []) (sym (names_same writing input whole m)) ∙ is }
  refusal_so (Refused.Strict name reason) is = (is.0, carries_so name reason is.1 is.2)
  refusal_so (Refused.NoFunction name) is = absurd is
  refusal_so (Refused.NoValue name) is = absurd is
  refusal_so (Refused.NoBlock name) is = absurd is
  refusal_so (Refused.NotDefined value block) is = absurd is
  refusal_so Refused.Memory is = absurd is

  refused_so : (e : Refused) → (e ≡ Refused.Memory) ⊎ IsRefusedFor strict whole e → (e ≡ Refused.Memory) ⊎ IsModuleRefusal strict input e
  refused_so e (inl memory) = inl memory
  refused_so e (inr is) = inr (refusal_so e is)

  pub written_in : (r : Result Portion Refused) → IfOk r (λ out. out ≡ whole) → OnOk r (first_repeated [] (names_of whole.accepted.items) ≡ None) →
      OnOk r (strict ≡ true → whole.first_carried ≡ None) → IfOk r (IsWritten writing strict input)
  written_in (Ok out) same distinct none = subst (IsWritten writing strict input) (sym same) (written_so distinct none)
  written_in (Err e) same distinct none = tt

  pub refused_in : (r : Result Portion Refused) → IfErr r (λ e. (e ≡ Refused.Memory) ⊎ IsRefusedFor strict whole e) →
      IfErr r (λ e. (e ≡ Refused.Memory) ⊎ IsModuleRefusal strict input e)
  refused_in (Ok out) is = tt
  refused_in (Err e) is = refused_so e is

pub made_in : (writing : Writing) (input : List ℕ) (items : List Item) (whole : Portion) → split_of input ≡ Ok items →
    All (IsPlaced input) items → IsPortion writing input items whole → IsMade writing input whole
made_in writing input items whole split places makes = record { items = items; split = split; places = places; makes = makes }

-- ---- answers

module _ (job : Job) (strict : Bool) (input : List ℕ) where
  same_pieces : (ps qs : List Piece) → ps ≡ qs → IsSoundFor job ps → IsSoundFor job qs
  same_pieces ps qs same = subst (IsSoundFor job) same

  pub sound_each : ((ps qs : List Piece) → Splits input ps → Splits input qs → ps ≡ qs) → (r : Result Text Refused) →
      OnOk r ((pieces : List Piece) × IsModule strict input pieces × IsSoundFor job pieces) →
      OnOk r ((pieces : List Piece) → IsModule strict input pieces → IsSoundFor job pieces)
  sound_each one (Ok text) is = λ pieces m. same_pieces is.0 pieces (one is.0 pieces is.1.splits m.splits) is.2
  sound_each one (Err e) is = tt

  memory_for : (pieces : List Piece) → IsModule strict input pieces → IsAnswerable job pieces →
      ((reason : Refused) → IsModule strict input pieces → IsAnswerable job pieces → IsRefusal job strict input reason → ⊥) →
      (e : Refused) → (e ≡ Refused.Memory) ⊎ IsRefusal job strict input e → e ≡ Refused.Memory
  memory_for pieces m can none e (inl memory) = memory
  memory_for pieces m can none e (inr is) = absurd (none e m can is)

  pub answers_in : ((pieces : List Piece) (reason : Refused) → IsModule strict input pieces → IsAnswerable job pieces → IsRefusal job strict input reason → ⊥) →
      (r : Result Text Refused) → IfErr r (λ e. (e ≡ Refused.Memory) ⊎ IsRefusal job strict input e) → (pieces : List Piece) →
      IsModule strict input pieces → IsAnswerable job pieces → IfErr r (λ e. e ≡ Refused.Memory)
  answers_in none (Ok text) is pieces m can = tt
  answers_in none (Err e) is pieces m can = memory_for pieces m can (none pieces) e is

  reason_for : ((a b : Refused) → IsRefusal job strict input a → IsRefusal job strict input b → a ≡ b) → (reason : Refused) →
      IsRefusal job strict input reason → (e : Refused) → (e ≡ Refused.Memory) ⊎ IsRefusal job strict input e → (e ≡ reason) ⊎ (e ≡ Refused.Memory)
  reason_for one reason holds e (inl memory) = inr memory
  reason_for one reason holds e (inr is) = inl (one e reason is holds)

  pub refuses_in : ((a b : Refused) → IsRefusal job strict input a → IsRefusal job strict input b → a ≡ b) →
      ((text notes : List ℕ) (reason : Refused) → IsModuleText job strict input text notes → IsRefusal job strict input reason → ⊥) → (r : Result Text Refused) →
      IfOk r (λ text. IsModuleText job strict input text.out.items text.notes.items) →
      IfErr r (λ e. (e ≡ Refused.Memory) ⊎ IsRefusal job strict input e) → (reason : Refused) → IsRefusal job strict input reason →
      OnOk r ⊥ × IfErr r (λ e. (e ≡ reason) ⊎ (e ≡ Refused.Memory))
  refuses_in one none (Ok text) has is reason holds = (none text.out.items text.notes.items reason has holds, tt)
  refuses_in one none (Err e) has is reason holds = (tt, reason_for one reason holds e is)
