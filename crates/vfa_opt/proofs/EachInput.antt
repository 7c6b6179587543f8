-- Each input is a module or there is a reason why it is none, it has at most one list of pieces, and at most one text is written for it.
use Rattle.std.proofs.Common.{◌≡◌, ◌+◌, ◌-◌, ◌⊎◌, inl, inr, ℕ, zero, suc, Bool, true, false, if◌then◌else◌, Option, Some, None, Result, Ok, Err, List, [], ◌∷◌, ◌++◌, length, refl, sym, ap, subst, ◌∙◌, slice_range, drop}
use Rattle.vfa_ir.specs.declared.functions.Function.{Function}
use Rattle.vfa_ir.specs.declared.reasons.Outside.{Outside}
use Rattle.vfa_ir.specs.declared.tokens.Token.{Token}
use Rattle.vfa_ir.specs.DefinedNames.{first_repeated}
use Rattle.vfa_module.specs.declared.items.Item.{Item}
use Rattle.vfa_module.specs.declared.items.SplitFault.{SplitFault}
use Rattle.vfa_module.specs.Split.{Extent, is_clear, closing_brace, define_of_line, next_line, with_first, define_then, defines_after, defines_from, items_between, split_of}
use Rattle.vfa_opt.specs.declared.refusals.Refused.{Refused}
use Rattle.vfa_opt.specs.declared.work.Carried.{Carried}
use Rattle.vfa_opt.specs.declared.writings.Writing.{Writing}
use Rattle.vfa_opt.specs.Acceptance.{IsInside, IsOutside, in_module}
use Rattle.vfa_check.specs.Checked.{IsChecked}
use Rattle.vfa_print.specs.Trees.{function_text}
use Rattle.vfa_report.specs.Report.{IsReport}
use Rattle.vfa_opt.specs.Optimised.{IsOptimised}
use Rattle.vfa_opt.specs.Module.{Piece, copied, accepted, carried, IsDefinePiece, IsPiece, ArePieces, IsFunctionText, IsPieceText, AreTexts, function_names, carried_functions, Splits, IsModule}
use Rattle.vfa_opt.specs.Refusals.{IsModuleRefusal}

-- ---- a split never answers that memory ran out

abbrev RanOut : Result (List Extent) SplitFault → Type 0
RanOut r = r ≡ Err SplitFault.Memory

found_not_out : (xs : List Extent) → RanOut (Ok xs) → ⊥
found_not_out xs e = cc

rest_out : (d : Extent) (r : Result (List Extent) SplitFault) → RanOut (with_first d r) → RanOut r
rest_out d (Ok rest) e = absurd (found_not_out (d ∷ rest) e)
rest_out d (Err fault) e = e

unclosed_not_out : (start : ℕ) → RanOut (Err (SplitFault.Unclosed start)) → ⊥
unclosed_not_out start e = cc

bad_line_not_out : (line : ℕ) → RanOut (Err (SplitFault.BadLine line)) → ⊥
bad_line_not_out line e = cc

closed_not_out : (b : Bool) (d : Extent) (line : ℕ) (r : Result (List Extent) SplitFault) → (RanOut r → ⊥) →
    RanOut (if b then with_first d r else Err (SplitFault.BadLine line)) → ⊥
closed_not_out true d line r more e = more (rest_out d r e)
closed_not_out false d line r more e = bad_line_not_out line e

define_not_out : (text : List ℕ) (start line : ℕ) (o : Option Token) (next : Token → Result (List Extent) SplitFault) →
    ((t : Token) → RanOut (next t) → ⊥) → RanOut (define_then text start line o next) → ⊥
define_not_out text start line None next more e = unclosed_not_out start e
define_not_out text start line (Some t) next more e =
    closed_not_out (is_clear (drop t.end text)) (record { start = start; end = t.end; line = line }) t.line (next t) (more t) e

line_not_out : (text : List ℕ) (line : ℕ) (o : Option ℕ) (none : Result (List Extent) SplitFault) (next : Token → Result (List Extent) SplitFault) →
    (RanOut none → ⊥) → ((t : Token) → RanOut (next t) → ⊥) →
    RanOut (elim o [ None ↦ none | Some start ↦ define_then text start line (closing_brace text start line) next ]) → ⊥
line_not_out text line None none next a b e = a e
line_not_out text line (Some start) none next a b e = define_not_out text start line (closing_brace text start line) next b e

defines_not_out : (text : List ℕ) (skip place line : ℕ) (left : List ℕ) → RanOut (defines_after text skip place line left) → ⊥
defines_not_out text skip place line [] e = found_not_out [] e
defines_not_out text (suc skip) place line (b ∷ left) e = defines_not_out text skip (place + 1) line left e
defines_not_out text zero place line (b ∷ left) e =
    line_not_out text line (define_of_line text place)
    (defines_after text (next_line text place - (place + 1)) (place + 1) (line + 1) left)
    (λ t. defines_after text (next_line text t.end - (place + 1)) (place + 1) (t.line + 1) left)
    (defines_not_out text (next_line text place - (place + 1)) (place + 1) (line + 1) left)
    (λ t. defines_not_out text (next_line text t.end - (place + 1)) (place + 1) (t.line + 1) left)
    e

abbrev split_then : List ℕ → Result (List Extent) SplitFault → Result (List Item) SplitFault
split_then text r = elim r [ Ok defines ↦ Ok (items_between 0 (length text) defines) | Err fault ↦ Err fault ]

split_out : (text : List ℕ) (r : Result (List Extent) SplitFault) → split_then text r ≡ Err SplitFault.Memory → RanOut r
split_out text (Ok defines) e = cc
split_out text (Err fault) e = let same : fault ≡ SplitFault.Memory = cc in ap (λ f. Err f) same

split_not_out : (text : List ℕ) → split_of text ≡ Err SplitFault.Memory → ⊥
split_not_out text e = defines_not_out text 0 0 1 text (split_out text (defines_from text 0 1) e)

-- ---- each input

abbrev EachText : Type 0
EachText = (text : List ℕ) → ((f : Function) × IsInside text f) ⊎ ((reason : Outside) × IsOutside text reason)

false_true : false ≡ true → ⊥
false_true e = cc

module _ (each : EachText) where
  define_piece : (line : ℕ) (text : List ℕ) → ((f : Function) × IsInside text f) ⊎ ((reason : Outside) × IsOutside text reason) →
      (piece : Piece) × IsDefinePiece line text piece
  define_piece line text (inl a) = (accepted a.0, a.1)
  define_piece line text (inr r) = (carried text (in_module line r.0), (refl, record { within = r.0; outside = r.1; same = refl }))

  item_piece : (input : List ℕ) (item : Item) → (piece : Piece) × IsPiece input item piece
  item_piece input (Item.Lines start end) = (copied (slice_range input start end), refl)
  item_piece input (Item.Define start end line) = define_piece line (slice_range input start end) (each (slice_range input start end))

  items_pieces : (input : List ℕ) (items : List Item) → (pieces : List Piece) × ArePieces input items pieces
  items_pieces input [] = ([], tt)
  items_pieces input (item ∷ items) =
      let one = item_piece input item in let rest = items_pieces input items in (one.0 ∷ rest.0, (one.1, rest.1))

  module _ (strict : Bool) (input : List ℕ) where
    abbrev Answered : Type 0
    Answered = ((pieces : List Piece) × IsModule strict input pieces) ⊎ ((reason : Refused) × IsModuleRefusal strict input reason)

    by_carried : (pieces : List Piece) → Splits input pieces → first_repeated [] (function_names pieces) ≡ None → (l : List Carried) →
        carried_functions pieces ≡ l → (b : Bool) → strict ≡ b → Answered
    by_carried pieces splits distinct [] none b is = inl (pieces, record { splits = splits; distinct = distinct; whole = λ s. none })
    by_carried pieces splits distinct (c ∷ later) first false is =
        inl (pieces, record { splits = splits; distinct = distinct; whole = λ s. absurd (false_true (sym is ∙ s)) })
    by_carried pieces splits distinct (c ∷ later) first true is =
        inr (Refused.Strict c.name c.reason, (is, record { pieces = pieces; splits = splits; distinct = distinct; later = later; first = first }))

    by_names : (pieces : List Piece) → Splits input pieces → (o : Option (List ℕ)) → first_repeated [] (function_names pieces) ≡ o → Answered
    by_names pieces splits None distinct = by_carried pieces splits distinct (carried_functions pieces) refl strict refl
    by_names pieces splits (Some name) repeated =
        inr (Refused.DuplicateFunction name, record { pieces = pieces; splits = splits; repeated = repeated })

    by_split : (r : Result (List Item) SplitFault) → split_of input ≡ r → Answered
    by_split (Ok items) split =
        let pieces = items_pieces input items in
        by_names pieces.0 (record { items = items; split = split; are = pieces.1 }) (first_repeated [] (function_names pieces.0)) refl
    by_split (Err (SplitFault.Unclosed start)) split = inr (Refused.Unclosed start, split)
    by_split (Err (SplitFault.BadLine line)) split = inr (Refused.BadLine line, split)
    by_split (Err SplitFault.Memory) split = absurd (split_not_out input split)

    pub module_or_refused : Answered
    module_or_refused = by_split (split_of input) refl

-- ---- at most one list of pieces

abbrev OneFunction : Type 0
OneFunction = (text : List ℕ) (f g : Function) → IsInside text f → IsInside text g → f ≡ g

abbrev OneReason : Type 0
OneReason = (text : List ℕ) (a b : Outside) → IsOutside text a → IsOutside text b → a ≡ b

abbrev NoReason : Type 0
NoReason = (text : List ℕ) (f : Function) (reason : Outside) → IsInside text f → IsOutside text reason → ⊥

some_same : {A : Type 0} (x y : A) → ◌≡◌ {A = Option A} (Some x) (Some y) → x ≡ y
some_same x y e = cc

none_some : {A : Type 0} (x : A) → ◌≡◌ {A = Option A} None (Some x) → ⊥
none_some x e = cc

first_same : {A : Type 0} (x y : A) (xs ys : List A) → x ∷ xs ≡ y ∷ ys → x ≡ y
first_same x y xs ys e = cc

none_first : {A : Type 0} (x : A) (xs : List A) → [] ≡ x ∷ xs → ⊥
none_first x xs e = cc

ok_same : (x y : List Item) → ◌≡◌ {A = Result (List Item) SplitFault} (Ok x) (Ok y) → x ≡ y
ok_same x y e = cc

ok_err : (x : List Item) (f : SplitFault) → ◌≡◌ {A = Result (List Item) SplitFault} (Ok x) (Err f) → ⊥
ok_err x f e = cc

unclosed_same : (a b : ℕ) → ◌≡◌ {A = Result (List Item) SplitFault} (Err (SplitFault.Unclosed a)) (Err (SplitFault.Unclosed b)) → a ≡ b
unclosed_same a b e = cc

bad_line_same : (a b : ℕ) → ◌≡◌ {A = Result (List Item) SplitFault} (Err (SplitFault.BadLine a)) (Err (SplitFault.BadLine b)) → a ≡ b
bad_line_same a b e = cc

unclosed_bad_line : (a b : ℕ) → ◌≡◌ {A = Result (List Item) SplitFault} (Err (SplitFault.Unclosed a)) (Err (SplitFault.BadLine b)) → ⊥
unclosed_bad_line a b e = cc

module _ (function : OneFunction) (reason : OneReason) (none : NoReason) where
  one_define : (line : ℕ) (text : List ℕ) (a b : Piece) → IsDefinePiece line text a → IsDefinePiece line text b → a ≡ b
  one_define line text (copied s) b p q = absurd p
  one_define line text (accepted f) (copied t) p q = absurd q
  one_define line text (accepted f) (accepted g) p q = ap accepted (function text f g p q)
  one_define line text (accepted f) (carried t e) p q = absurd (none text f q.1.within p q.1.outside)
  one_define line text (carried s d) (copied t) p q = absurd q
  one_define line text (carried s d) (accepted g) p q = absurd (none text g p.1.within q p.1.outside)
  one_define line text (carried s d) (carried t e) p q =
      let within = reason text p.1.within q.1.within p.1.outside q.1.outside in
      ap (λ x. carried x d) (p.0 ∙ sym q.0) ∙ ap (carried t) (p.1.same ∙ ap (in_module line) within ∙ sym q.1.same)

  one_piece : (input : List ℕ) (item : Item) (a b : Piece) → IsPiece input item a → IsPiece input item b → a ≡ b
  one_piece input (Item.Lines start end) a b p q = p ∙ sym q
  one_piece input (Item.Define start end line) a b p q = one_define line (slice_range input start end) a b p q

  one_list : (input : List ℕ) (items : List Item) (ps qs : List Piece) → ArePieces input items ps → ArePieces input items qs → ps ≡ qs
  one_list input [] [] [] p q = refl
  one_list input [] [] (b ∷ qs) p q = absurd q
  one_list input [] (a ∷ ps) qs p q = absurd p
  one_list input (item ∷ items) [] qs p q = absurd p
  one_list input (item ∷ items) (a ∷ ps) [] p q = absurd q
  one_list input (item ∷ items) (a ∷ ps) (b ∷ qs) p q =
      ap (λ x. x ∷ ps) (one_piece input item a b p.0 q.0) ∙ ap (λ xs. b ∷ xs) (one_list input items ps qs p.1 q.1)

  pub one_split : (input : List ℕ) (ps qs : List Piece) → Splits input ps → Splits input qs → ps ≡ qs
  one_split input ps qs p q =
      let same : p.items ≡ q.items = ok_same p.items q.items (sym p.split ∙ q.split) in
      one_list input q.items ps qs (subst (λ i. ArePieces input i ps) same p.are) q.are

abbrev pub OneList : Type 0
OneList = (input : List ℕ) (ps qs : List Piece) → Splits input ps → Splits input qs → ps ≡ qs

-- ---- at most one text

abbrev pub OneReport : Type 0
OneReport = (f : Function) (s t : List ℕ) → IsReport f s → IsReport f t → s ≡ t

abbrev pub OneOptimised : Type 0
OneOptimised = (f g g' : Function) → IsChecked f → IsOptimised f g → IsOptimised f g' → g ≡ g'

abbrev pub WasChecked : Type 0
WasChecked = (text : List ℕ) (f : Function) → IsInside text f → IsChecked f

module _ (report : OneReport) (optimised : OneOptimised) (checked : WasChecked) where
  one_function_text : (writing : Writing) (f : Function) → IsChecked f → (s t : List ℕ) → IsFunctionText writing f s → IsFunctionText writing f t → s ≡ t
  one_function_text Writing.Optimised f was s t p q = p.is ∙ (ap function_text (optimised f p.function q.function was p.is_optimised q.is_optimised) ∙ sym q.is)
  one_function_text Writing.Reports f was s t p q = report f s t p q
  one_function_text Writing.Nothing f was s t p q = p ∙ sym q

  was_checked : (input : List ℕ) (item : Item) (f : Function) → IsPiece input item (accepted f) → IsChecked f
  was_checked input (Item.Lines start end) f is = absurd (let other : accepted f ≡ copied (slice_range input start end) = is in cc)
  was_checked input (Item.Define start end line) f is = checked (slice_range input start end) f is

  one_piece_text : (writing : Writing) (input : List ℕ) (item : Item) (piece : Piece) → IsPiece input item piece → (s t : List ℕ) →
      IsPieceText writing piece s → IsPieceText writing piece t → s ≡ t
  one_piece_text writing input item (copied bytes) is s t p q = p ∙ sym q
  one_piece_text writing input item (accepted f) is s t p q = one_function_text writing f (was_checked input item f is) s t p q
  one_piece_text writing input item (carried bytes e) is s t p q = p ∙ sym q

  one_text_of : (writing : Writing) (input : List ℕ) (items : List Item) (pieces : List Piece) → ArePieces input items pieces → (s t : List ℕ) →
      AreTexts writing pieces s → AreTexts writing pieces t → s ≡ t
  one_text_of writing input [] [] are s t p q = p ∙ sym q
  one_text_of writing input [] (piece ∷ pieces) are s t p q = absurd are
  one_text_of writing input (item ∷ items) [] are s t p q = absurd are
  one_text_of writing input (item ∷ items) (piece ∷ pieces) are s t p q =
      p.4 ∙ ap (λ x. x ++ p.1) (one_piece_text writing input item piece are.0 p.0 q.0 p.2 q.2)
      ∙ ap (λ x. q.0 ++ x) (one_text_of writing input items pieces are.1 p.1 q.1 p.3 q.3) ∙ sym q.4

  pub one_written : (writing : Writing) (input : List ℕ) (pieces : List Piece) → Splits input pieces → (s t : List ℕ) →
      AreTexts writing pieces s → AreTexts writing pieces t → s ≡ t
  one_written writing input pieces splits = one_text_of writing input splits.items pieces splits.are

-- ---- at most one refusal

module _ (one : OneList) where
  -- a split that is of some pieces
  split_no_fault : (input : List ℕ) (pieces : List Piece) (f : SplitFault) → Splits input pieces → split_of input ≡ Err f → ⊥
  split_no_fault input pieces f s e = ok_err s.items f (sym s.split ∙ e)

  repeated_distinct : (input : List ℕ) (ps qs : List Piece) (name : List ℕ) → Splits input ps → Splits input qs →
      first_repeated [] (function_names ps) ≡ Some name → first_repeated [] (function_names qs) ≡ None → ⊥
  repeated_distinct input ps qs name p q repeated distinct =
      none_some name (sym distinct ∙ ap (λ l. first_repeated [] (function_names l)) (one input qs ps q p) ∙ repeated)

  pub one_refused : (strict : Bool) (input : List ℕ) (a b : Refused) → IsModuleRefusal strict input a → IsModuleRefusal strict input b → a ≡ b
  one_refused strict input (Refused.Unclosed m) (Refused.Unclosed n) p q = ap Refused.Unclosed (unclosed_same m n (sym p ∙ q))
  one_refused strict input (Refused.Unclosed m) (Refused.BadLine n) p q = absurd (unclosed_bad_line m n (sym p ∙ q))
  one_refused strict input (Refused.Unclosed m) (Refused.DuplicateFunction name) p q = absurd (split_no_fault input q.pieces (SplitFault.Unclosed m) q.splits p)
  one_refused strict input (Refused.Unclosed m) (Refused.Strict name why) p q = absurd (split_no_fault input q.1.pieces (SplitFault.Unclosed m) q.1.splits p)
  one_refused strict input (Refused.Unclosed m) (Refused.NoFunction n) p q = absurd q
  one_refused strict input (Refused.Unclosed m) (Refused.NoValue n) p q = absurd q
  one_refused strict input (Refused.Unclosed m) (Refused.NoBlock n) p q = absurd q
  one_refused strict input (Refused.Unclosed m) (Refused.NotDefined n b) p q = absurd q
  one_refused strict input (Refused.Unclosed m) Refused.Memory p q = absurd q
  one_refused strict input (Refused.BadLine m) (Refused.Unclosed n) p q = absurd (unclosed_bad_line n m (sym q ∙ p))
  one_refused strict input (Refused.BadLine m) (Refused.BadLine n) p q = ap Refused.BadLine (bad_line_same m n (sym p ∙ q))
  one_refused strict input (Refused.BadLine m) (Refused.DuplicateFunction name) p q = absurd (split_no_fault input q.pieces (SplitFault.BadLine m) q.splits p)
  one_refused strict input (Refused.BadLine m) (Refused.Strict name why) p q = absurd (split_no_fault input q.1.pieces (SplitFault.BadLine m) q.1.splits p)
  one_refused strict input (Refused.BadLine m) (Refused.NoFunction n) p q = absurd q
  one_refused strict input (Refused.BadLine m) (Refused.NoValue n) p q = absurd q
  one_refused strict input (Refused.BadLine m) (Refused.NoBlock n) p q = absurd q
  one_refused strict input (Refused.BadLine m) (Refused.NotDefined n b) p q = absurd q
  one_refused strict input (Refused.BadLine m) Refused.Memory p q = absurd q
  one_refused strict input (Refused.DuplicateFunction name) (Refused.Unclosed n) p q = absurd (split_no_fault input p.pieces (SplitFault.Unclosed n) p.splits q)
  one_refused strict input (Refused.DuplicateFunction name) (Refused.BadLine n) p q = absurd (split_no_fault input p.pieces (SplitFault.BadLine n) p.splits q)
  one_refused strict input (Refused.DuplicateFunction m) (Refused.DuplicateFunction n) p q =
      let same : p.pieces ≡ q.pieces = one input p.pieces q.pieces p.splits q.splits in
      ap Refused.DuplicateFunction (some_same m n (sym p.repeated ∙ ap (λ ps. first_repeated [] (function_names ps)) same ∙ q.repeated))
  one_refused strict input (Refused.DuplicateFunction m) (Refused.Strict n why) p q =
      absurd (repeated_distinct input p.pieces q.1.pieces m p.splits q.1.splits p.repeated q.1.distinct)
  one_refused strict input (Refused.DuplicateFunction name) (Refused.NoFunction n) p q = absurd q
  one_refused strict input (Refused.DuplicateFunction name) (Refused.NoValue n) p q = absurd q
  one_refused strict input (Refused.DuplicateFunction name) (Refused.NoBlock n) p q = absurd q
  one_refused strict input (Refused.DuplicateFunction name) (Refused.NotDefined n b) p q = absurd q
  one_refused strict input (Refused.DuplicateFunction name) Refused.Memory p q = absurd q
  one_refused strict input (Refused.Strict name why) (Refused.Unclosed n) p q = absurd (split_no_fault input p.1.pieces (SplitFault.Unclosed n) p.1.splits q)
  one_refused strict input (Refused.Strict name why) (Refused.BadLine n) p q = absurd (split_no_fault input p.1.pieces (SplitFault.BadLine n) p.1.splits q)
  one_refused strict input (Refused.Strict m why) (Refused.DuplicateFunction n) p q =
      absurd (repeated_distinct input q.pieces p.1.pieces n q.splits p.1.splits q.repeated p.1.distinct)
  one_refused strict input (Refused.Strict m why) (Refused.Strict n other) p q =
      let same : p.1.pieces ≡ q.1.pieces = one input p.1.pieces q.1.pieces p.1.splits q.1.splits in
      let a : Carried = record { name = m; reason = why } in
      let b : Carried = record { name = n; reason = other } in
      let first : a ≡ b = first_same a b p.1.later q.1.later (sym p.1.first ∙ ap carried_functions same ∙ q.1.first) in
      ap (λ (c : Carried). Refused.Strict c.name c.reason) first
  one_refused strict input (Refused.Strict name why) (Refused.NoFunction n) p q = absurd q
  one_refused strict input (Refused.Strict name why) (Refused.NoValue n) p q = absurd q
  one_refused strict input (Refused.Strict name why) (Refused.NoBlock n) p q = absurd q
  one_refused strict input (Refused.Strict name why) (Refused.NotDefined n b) p q = absurd q
  one_refused strict input (Refused.Strict name why) Refused.Memory p q = absurd q
  one_refused strict input (Refused.NoFunction n) b p q = absurd p
  one_refused strict input (Refused.NoValue n) b p q = absurd p
  one_refused strict input (Refused.NoBlock n) b p q = absurd p
  one_refused strict input (Refused.NotDefined n c) b p q = absurd p
  one_refused strict input Refused.Memory b p q = absurd p

  pub module_not_refused : (strict : Bool) (input : List ℕ) (pieces : List Piece) (r : Refused) → IsModule strict input pieces →
      IsModuleRefusal strict input r → ⊥
  module_not_refused strict input pieces (Refused.Unclosed n) m is = split_no_fault input pieces (SplitFault.Unclosed n) m.splits is
  module_not_refused strict input pieces (Refused.BadLine n) m is = split_no_fault input pieces (SplitFault.BadLine n) m.splits is
  module_not_refused strict input pieces (Refused.DuplicateFunction name) m is =
      repeated_distinct input is.pieces pieces name is.splits m.splits is.repeated m.distinct
  module_not_refused strict input pieces (Refused.Strict name why) m is =
      let same : pieces ≡ is.1.pieces = one input pieces is.1.pieces m.splits is.1.splits in
      none_first (record { name = name; reason = why }) is.1.later (sym (m.whole is.0) ∙ ap carried_functions same ∙ is.1.first)
  module_not_refused strict input pieces (Refused.NoFunction n) m is = absurd is
  module_not_refused strict input pieces (Refused.NoValue n) m is = absurd is
  module_not_refused strict input pieces (Refused.NoBlock n) m is = absurd is
  module_not_refused strict input pieces (Refused.NotDefined n c) m is = absurd is
  module_not_refused strict input pieces Refused.Memory m is = absurd is
