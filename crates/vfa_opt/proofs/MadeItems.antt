-- What consecutive items make: item by item, and share by share.
use Rattle.std.proofs.Common.{◌≡◌, ◌<◌, ◌≤◌, ◌+◌, ◌∙◌, ℕ, Option, Some, None, Result, Ok, Err, List, [], ◌∷◌, ◌++◌, length, take, drop, get_or, slice_get, option_to_list, All, refl, sym, ap, subst, append_assoc, append-nil, length-append, arith}
use Rattle.std.specs.Borrow.{Bor}
use Rattle.std.specs.Prelude.{IfOk, flat_map, filter_map, sum_by}
use Rattle.std.specs.declared.alloc.AllocError.{AllocError}
use Rattle.std.specs.declared.alloc.Global.{Global}
use Rattle.std.specs.declared.vec.Vec.{Vec}
use Rattle.std.specs.List.{AllByRecursion, AllZip, cons_option}
use Rattle.std.specs.Option.{option_or}
use Rattle.std.proofs.lemmas.List.{length-take, take_at, take_more, drop_at}
use Rattle.std.proofs.lemmas.List.Concat.{flat_map-append}
use Rattle.std.proofs.lemmas.List.Elements.{All-append, All-cons, All-drop, All-from_recursion, All-nil, All-same, All-take, filter_map-append}
use Rattle.std.proofs.lemmas.List.Sums.{sum_by-cons}
use Rattle.vfa_module.specs.declared.items.Item.{Item}
use Rattle.vfa_opt.specs.declared.portions.Accepted.{Accepted}
use Rattle.vfa_opt.specs.declared.portions.Portion.{Portion}
use Rattle.vfa_opt.specs.declared.work.Carried.{Carried}
use Rattle.vfa_opt.specs.declared.work.Worked.{Worked}
use Rattle.vfa_opt.specs.declared.writings.Writing.{Writing}
use Rattle.vfa_opt.specs.Module.{Piece, ArePieces, AreTexts, carried_functions, notes_of, piece_carried, piece_name, piece_note}
use Rattle.vfa_opt.specs.Sound.{IsSoundPiece}
use Rattle.vfa_opt.specs.Works.{ArePortions, IsPlaced, IsPortion, IsWorked, Makes, accepted_in, items_in, portion_accepted, portion_carried, portion_first, portion_notes, portion_out, standing_in, worked_carried, worked_name, worked_note, worked_text}

-- ---- lists

-- the first of two lists, one after the other
first_of_both : {X : Type 0} (xs ys : List X) → slice_get (xs ++ ys) 0 ≡ option_or (slice_get xs 0) (slice_get ys 0)
first_of_both [] ys = refl
first_of_both (x ∷ xs) ys = refl

one_of : {X : Type 0} (o : Option X) → cons_option o [] ≡ option_to_list o
one_of None = refl
one_of (Some x) = refl

first_of_one : {X : Type 0} (o : Option X) → slice_get (cons_option o []) 0 ≡ o
first_of_one None = refl
first_of_one (Some x) = refl

first_more : {X : Type 0} (o : Option X) (xs : List X) → slice_get (cons_option o xs) 0 ≡ option_or o (slice_get xs 0)
first_more None xs = refl
first_more (Some x) xs = refl

-- the first one so far, or of the next portion
pub first_next : (start before after : Option Carried) (portions : List Portion) (next : Portion) → after ≡ option_or before next.first_carried →
    before ≡ option_or start (slice_get (filter_map portion_first portions) 0) →
    after ≡ option_or start (slice_get (filter_map portion_first (portions ++ next ∷ [])) 0)
first_next start before after portions next more so_far =
    more ∙ ap (λ o. option_or o next.first_carried) so_far ∙ in_turn start (filter_map portion_first portions)
    ∙ ap (λ l. option_or start (slice_get l 0)) (sym (filter_map-append portion_first portions (next ∷ [])))
  where
    in_turn : (o : Option Carried) (xs : List Carried) →
        option_or (option_or o (slice_get xs 0)) next.first_carried ≡ option_or o (slice_get (xs ++ cons_option next.first_carried []) 0)
    in_turn (Some x) xs = refl
    in_turn None [] = sym (first_of_one next.first_carried)
    in_turn None (x ∷ xs) = refl

-- ---- pieces

are_append : (input : List ℕ) (items others : List Item) (ps qs : List Piece) → ArePieces input items ps → ArePieces input others qs →
    ArePieces input (items ++ others) (ps ++ qs)
are_append input [] others [] qs are more = more
are_append input [] others (p ∷ ps) qs are more = absurd are
are_append input (i ∷ items) others [] qs are more = absurd are
are_append input (i ∷ items) others (p ∷ ps) qs are more = (are.0, are_append input items others ps qs are.1 more)

texts_append : (writing : Writing) (ps qs : List Piece) (s t : List ℕ) → AreTexts writing ps s → AreTexts writing qs t → AreTexts writing (ps ++ qs) (s ++ t)
texts_append writing [] qs s t is more = subst (λ z. AreTexts writing qs (z ++ t)) (sym is) more
texts_append writing (p ∷ ps) qs s t is more =
    (is.0, is.1 ++ t, is.2, texts_append writing ps qs is.1 t is.3 more, ap (λ z. z ++ t) is.4 ∙ append_assoc is.0 is.1 t)

accepted_append : (input : List ℕ) (items others : List Item) (ps qs : List Piece) → ArePieces input items ps →
    accepted_in (items ++ others) (ps ++ qs) ≡ accepted_in items ps ++ accepted_in others qs
accepted_append input [] others [] qs are = refl
accepted_append input [] others (p ∷ ps) qs are = absurd are
accepted_append input (i ∷ items) others [] qs are = absurd are
accepted_append input (i ∷ items) others (p ∷ ps) qs are =
    ap (λ l. standing_in i (piece_name p) ++ l) (accepted_append input items others ps qs are.1)
    ∙ sym (append_assoc (standing_in i (piece_name p)) (accepted_in items ps) (accepted_in others qs))

few_carried : (p : Piece) (count : ℕ) (more : List Carried) → length more ≤ count → length (cons_option (piece_carried p) more) ≤ count + 1
few_carried p count more few = at (piece_carried p)
  where
    at : (o : Option Carried) → length (cons_option o more) ≤ count + 1
    at None = omega arith
    at (Some c) = omega arith

carried_few : (input : List ℕ) (items : List Item) (ps : List Piece) → ArePieces input items ps → length (carried_functions ps) ≤ length items
carried_few input [] [] are = omega arith
carried_few input [] (p ∷ ps) are = absurd are
carried_few input (i ∷ items) [] are = absurd are
carried_few input (i ∷ items) (p ∷ ps) are =
    let few : length (cons_option (piece_carried p) (carried_functions ps)) ≤ length items + 1 =
    few_carried p (length items) (carried_functions ps) (carried_few input items ps are.1) in
    omega arith

-- ---- what items make

module _ (writing : Writing) (input : List ℕ) where
  pub made_of_none : (out notes : List ℕ) (functions : List Accepted) (count : ℕ) (first : Option Carried) → out ≡ [] → notes ≡ [] → functions ≡ [] →
      count ≡ 0 → first ≡ None → Makes writing input [] out notes functions count first
  made_of_none out notes functions count first no_text no_note no_function zero none = record {
    pieces = [];
    are = tt;
    texts = no_text;
    sound = All-nil (IsSoundPiece writing);
    notes_are = no_note;
    functions_are = no_function;
    count_is = zero;
    first_is = none;
  }

  made_few : (items : List Item) (out notes : List ℕ) (functions : List Accepted) (count : ℕ) (first : Option Carried) →
      Makes writing input items out notes functions count first → count ≤ length items
  made_few items out notes functions count first m =
      let few : length (carried_functions m.pieces) ≤ length items = carried_few input items m.pieces m.are in
      subst (λ n. n ≤ length items) (sym m.count_is) few

  -- what items make, and then others
  module _ (items others : List Item) (out more : List ℕ) (notes later : List ℕ) (functions further : List Accepted) (count rest : ℕ)
      (first next : Option Carried) where
    made_append : Makes writing input items out notes functions count first → Makes writing input others more later further rest next →
        Makes writing input (items ++ others) (out ++ more) (notes ++ later) (functions ++ further) (count + rest) (option_or first next)
    made_append m n = record {
      pieces = m.pieces ++ n.pieces;
      are = are_append input items others m.pieces n.pieces m.are n.are;
      texts = texts_append writing m.pieces n.pieces out more m.texts n.texts;
      sound = All-append (IsSoundPiece writing) m.pieces n.pieces m.sound n.sound;
      notes_are =
          ap (λ l. l ++ later) m.notes_are ∙ ap (λ l. notes_of m.pieces ++ l) n.notes_are
          ∙ sym (flat_map-append piece_note m.pieces n.pieces);
      functions_are =
          ap (λ l. l ++ further) m.functions_are ∙ ap (λ l. accepted_in items m.pieces ++ l) n.functions_are
          ∙ sym (accepted_append input items others m.pieces n.pieces m.are);
      count_is =
          ap (λ k. k + rest) m.count_is ∙ ap (λ k. length (carried_functions m.pieces) + k) n.count_is
          ∙ sym (length-append (carried_functions m.pieces) (carried_functions n.pieces))
          ∙ ap length (sym (filter_map-append piece_carried m.pieces n.pieces));
      first_is =
          ap (λ o. option_or o next) m.first_is ∙ ap (λ o. option_or (slice_get (carried_functions m.pieces) 0) o) n.first_is
          ∙ sym (first_of_both (carried_functions m.pieces) (carried_functions n.pieces))
          ∙ ap (λ l. slice_get l 0) (sym (filter_map-append piece_carried m.pieces n.pieces));
    }

  -- an item by itself
  made_of_one : (item : Item) (worked : Worked) → IsWorked writing input item worked →
      Makes writing input (item ∷ []) (worked_text writing input worked) (worked_note worked) (standing_in item (worked_name worked))
      (length (option_to_list (worked_carried worked))) (worked_carried worked)
  made_of_one item worked one = record {
    pieces = one.piece ∷ [];
    are = (one.is, tt);
    texts = (worked_text writing input worked, [], one.work.text, refl, sym (append-nil (worked_text writing input worked)));
    sound = All-cons (IsSoundPiece writing) one.piece [] one.work.sound (All-nil (IsSoundPiece writing));
    notes_are = one.work.note ∙ sym (append-nil (piece_note one.piece));
    functions_are = ap (standing_in item) one.work.name ∙ sym (append-nil (standing_in item (piece_name one.piece)));
    count_is = ap (λ o. length (option_to_list o)) one.work.carried ∙ ap length (sym (one_of (piece_carried one.piece)));
    first_is = one.work.carried ∙ sym (first_of_one (piece_carried one.piece));
  }

  same_made : (items : List Item) (out out' notes notes' : List ℕ) (functions functions' : List Accepted) (count count' : ℕ) (first first' : Option Carried) →
      out' ≡ out → notes' ≡ notes → functions' ≡ functions → count' ≡ count → first' ≡ first → Makes writing input items out notes functions count first →
      Makes writing input items out' notes' functions' count' first'
  same_made items out out' notes notes' functions functions' count count' first first' o n f c h m = record {
    pieces = m.pieces;
    are = m.are;
    texts = subst (λ z. AreTexts writing m.pieces z) (sym o) m.texts;
    sound = m.sound;
    notes_are = n ∙ m.notes_are;
    functions_are = f ∙ m.functions_are;
    count_is = c ∙ m.count_is;
    first_is = h ∙ m.first_is;
  }

  pub few_taken : (items : List Item) (n : ℕ) (portion : Portion) → IsPortion writing input (take n items) portion → portion.carried ≤ n
  few_taken items n portion m =
      omega (arith, made_few (take n items) (portion_out portion) (portion_notes portion) (portion_accepted portion) (portion_carried portion) (portion_first portion) m, length-take n items)

  -- one item more
  pub made_more : (items : List Item) (i : ℕ) (d : Item) (worked : Worked) (before after : Portion) → i < length items →
      IsPortion writing input (take i items) before → IsWorked writing input (get_or items i d) worked →
      after.out.items ≡ before.out.items ++ worked_text writing input worked → after.notes.items ≡ before.notes.items ++ worked_note worked →
      after.accepted.items ≡ before.accepted.items ++ standing_in (get_or items i d) (worked_name worked) →
      after.carried ≡ before.carried + length (option_to_list (worked_carried worked)) →
      after.first_carried ≡ option_or before.first_carried (worked_carried worked) → IsPortion writing input (take (i + 1) items) after
  made_more items i d worked before after lt m one out notes functions count first =
      let item : Item = get_or items i d in
      subst (λ l. IsPortion writing input l after) (sym (take_more items i d lt))
      (same_made (take i items ++ item ∷ []) _ (portion_out after) _ (portion_notes after) _ (portion_accepted after) _ (portion_carried after) _ (portion_first after)
      out notes functions count first
      (made_append (take i items) (item ∷ []) _ _ _ _ _ _ _ _ _ _ m (made_of_one item worked one)))

  -- ---- portions

  portions_of_shares : (shares : List (Bor (List Item))) (all : List Portion) → AllZip (λ share portion. IsPortion writing input share.now portion) shares all →
      ArePortions writing input (items_in shares) all
  portions_of_shares [] [] are = refl
  portions_of_shares [] (p ∷ all) are = absurd are
  portions_of_shares (s ∷ shares) [] are = absurd are
  portions_of_shares (s ∷ shares) (p ∷ all) are = (s.now, items_in shares, are.0, portions_of_shares shares all are.1, refl)

  pub portions_in : (items : List Item) (shares : List (Bor (List Item))) (r : Result (Vec Portion Global) AllocError) → items_in shares ≡ items →
      IfOk r (λ all. AllZip (λ share portion. IsPortion writing input share.now portion) shares all.items) →
      IfOk r (λ all. ArePortions writing input items all.items)
  portions_in items shares (Ok all) same are = subst (λ l. ArePortions writing input l all.items) same (portions_of_shares shares all.items are)
  portions_in items shares (Err e) same are = tt

  -- the portions that all items make are those of the whole
  portions_whole : (items : List Item) (all : List Portion) → ArePortions writing input items all →
      Makes writing input items (flat_map portion_out all) (flat_map portion_notes all) (flat_map portion_accepted all) (sum_by portion_carried all)
      (slice_get (filter_map portion_first all) 0)
  portions_whole items [] are =
      subst (λ l. Makes writing input l [] [] [] 0 None) (sym are) (made_of_none [] [] [] 0 None refl refl refl refl refl)
  portions_whole items (p ∷ all) are =
      let own : List Item = are.0 in
      let rest : List Item = are.1 in
      let both = made_append own rest _ _ _ _ _ _ _ _ _ _ are.2 (portions_whole rest all are.3) in
      subst
      (λ l. Makes writing input l (flat_map portion_out (p ∷ all)) (flat_map portion_notes (p ∷ all)) (flat_map portion_accepted (p ∷ all))
      (sum_by portion_carried (p ∷ all)) (slice_get (filter_map portion_first (p ∷ all)) 0))
      (sym are.4)
      (same_made (own ++ rest) _ (flat_map portion_out (p ∷ all)) _ (flat_map portion_notes (p ∷ all)) _ (flat_map portion_accepted (p ∷ all)) _
      (sum_by portion_carried (p ∷ all)) _ (slice_get (filter_map portion_first (p ∷ all)) 0) refl refl refl (sum_by-cons portion_carried p all)
      (first_more (portion_first p) (filter_map portion_first all)) both)

  pub portion_of_all : (items : List Item) (all : List Portion) (whole : Portion) → ArePortions writing input items all →
      whole.out.items ≡ flat_map portion_out all → whole.notes.items ≡ flat_map portion_notes all →
      whole.accepted.items ≡ flat_map portion_accepted all → whole.carried ≡ sum_by portion_carried all →
      whole.first_carried ≡ slice_get (filter_map portion_first all) 0 → IsPortion writing input items whole
  portion_of_all items all whole are out notes functions count first =
      same_made items _ (portion_out whole) _ (portion_notes whole) _ (portion_accepted whole) _ (portion_carried whole) _ (portion_first whole) out notes functions count
      first (portions_whole items all are)

  pub few_in_all : (items : List Item) (all : List Portion) → ArePortions writing input items all → sum_by portion_carried all ≤ length items
  few_in_all items all are = made_few items _ _ _ _ _ (portions_whole items all are)

-- ---- shares

module _ (P : Item → Type 0) where
  all_front : (xs ys : List Item) → All P (xs ++ ys) → All P xs
  all_front xs ys all = All-same P xs (take (length xs) (xs ++ ys)) (sym (take_at xs ys (length xs) refl)) (All-take P (length xs) (xs ++ ys) all)

  all_back : (xs ys : List Item) → All P (xs ++ ys) → All P ys
  all_back xs ys all = All-same P ys (drop (length xs) (xs ++ ys)) (sym (drop_at xs ys (length xs) refl)) (All-drop P (length xs) (xs ++ ys) all)

  each_share : (shares : List (Bor (List Item))) → All P (items_in shares) → AllByRecursion (λ share. All P share.now) shares
  each_share [] all = tt
  each_share (s ∷ shares) all = (all_front s.now (items_in shares) all, each_share shares (all_back s.now (items_in shares) all))

-- each share can be worked on
pub may_run : (input : List ℕ) (items : List Item) (shares : List (Bor (List Item))) → items_in shares ≡ items → All (IsPlaced input) items →
    length input ≤ 16777216 → All (λ share. All (IsPlaced input) share.now × (length input ≤ 16777216)) shares
may_run input items shares same places limit = λ k d lt. (
  All-from_recursion (λ share. All (IsPlaced input) share.now) shares
      (each_share (IsPlaced input) shares (All-same (IsPlaced input) (items_in shares) items same places)) k d lt,
  limit,
)
