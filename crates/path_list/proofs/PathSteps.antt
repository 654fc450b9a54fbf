-- A path that is read off a stream, byte by byte.
use Rattle.std.proofs.Common.{◌≡◌, ◌≢◌, ℕ, ◌+◌, ◌<◌, ◌≤◌, Bool, true, false, not, leb, ltb, All, List, [], ◌∷◌, ◌++◌, length, take, Option, Some, None, Result, Ok, Err, refl, ap, subst, ◌∙◌, inl, inr, append-nil, length-append, arith}
use Rattle.std.specs.Prelude.{◌&&◌}
use Rattle.std.specs.List.{list_all}
use Rattle.std.proofs.lemmas.Bool.{lt-leb, lt-ltb}
use Rattle.std.proofs.lemmas.List.{take_all}
use Rattle.std.proofs.lemmas.List.Elements.{All-nil, All-push}
use Rattle.std.proofs.lemmas.List.Folds.{list_all-append}
use Rattle.std.proofs.lemmas.List.Sums.{list_all-from_AllPass}
use Rattle.byte_feed.specs.declared.damage.DamageCause.TheVariants.{Cut, LongPath, EmptyPath, ZeroChar}
use Rattle.byte_feed.specs.declared.damage.Stop.{Stop}
use Rattle.byte_feed.specs.declared.damage.Stop.TheVariants.{Broken}
use Rattle.byte_feed.specs.declared.damage.Break.TheVariants.{ReadFault, TooLarge, Stopped}
use Rattle.byte_feed.specs.Field.{max_path}
use Rattle.byte_feed.specs.Front.{limit}
use Rattle.byte_feed.specs.Feed.{FeedState, window, Took, TookKnown}
use Rattle.byte_feed.specs.Stream.{StreamGives}
use Rattle.byte_feed.proofs.TakenOff.{took_then, took_same, took_held, window_took}
use Rattle.byte_feed.proofs.Streams.{byte_large, byte_fault, cut_off}
use Rattle.path_list.specs.Items.{Item, IsListed, marked, path_test, item_at}
use Rattle.path_list.specs.Streams.{PathKnown}
use Rattle.path_list.proofs.ItemLaws.{Bare, item_marked, item_open, test_again, split_bytes}
use Rattle.path_list.proofs.ListEndings.{stays_open}

-- a first part of a path, without the mark
pub record Part (mark : ℕ) (text : List ℕ) : Type 0 where
  pub bare : Bare mark text
  pub plain : All (λ b. 0 < b) text
  pub fits : length text ≤ max_path

pub part_none : (mark : ℕ) → Part mark []
part_none mark = record { bare = All-nil (λ b. b ≢ mark); plain = All-nil (λ b. 0 < b); fits = omega arith }

pub part_more : (mark : ℕ) (text : List ℕ) (b : ℕ) → Part mark text → b ≢ mark → 0 < b → length text < max_path → Part mark (text ++ b ∷ [])
part_more mark text b h other some room = record {
  bare = All-push (λ c. c ≢ mark) text b h.bare other;
  plain = All-push (λ c. 0 < c) text b h.plain some;
  fits = omega (arith, room, length-append text (b ∷ []));
}

pub part_listed : (mark : ℕ) (text : List ℕ) → Part mark text → 0 < length text → IsListed mark text
part_listed mark text h some = record { is_path = record { some = some; fits = h.fits; plain = h.plain }; bare = h.bare }

-- ---- how a part is read

abbrev cut : Result (Item × List ℕ) Stop
cut = Err (Broken Cut)

part_cut : (mark : ℕ) (text : List ℕ) → Part mark text → item_at mark false (text ++ []) ≡ cut
part_cut mark text h =
    let good = test_again text h.fits h.plain in
    ap (item_at mark false) (append-nil text) ∙ item_open mark false text h.bare ∙ rw good refl

empty_marked : (mark : ℕ) (last : Bool) (rest : List ℕ) → item_at mark last (mark ∷ rest) ≡ Err (Broken EmptyPath)
empty_marked mark last rest = item_marked mark last [] rest (All-nil (λ b. b ≢ mark))

abbrev failed_test : Stop → Result (Unit {0}) Stop
failed_test s = Err s

all_plain : (text : List ℕ) → All (λ b. 0 < b) text → list_all (ltb 0) text ≡ true
all_plain text plain = list_all-from_AllPass (ltb 0) text (λ k d lt. lt-ltb 0 _ (plain k d lt))

-- one byte more is too long
long_test : (text : List ℕ) (b : ℕ) → All (λ c. 0 < c) text → 0 < b → max_path ≡ length text → path_test (text ++ b ∷ []) ≡ failed_test (Broken LongPath)
long_test text b plain some full =
    let front : take (max_path + 1) (text ++ b ∷ []) ≡ text ++ b ∷ [] = take_all (max_path + 1) (text ++ b ∷ []) (omega (arith, full, length-append text (b ∷ []))) in
    let long : leb (length (text ++ b ∷ [])) max_path ≡ false = lt-leb _ _ (omega (arith, full, length-append text (b ∷ []))) in
    rw (front, all_plain (text ++ b ∷ []) (All-push (λ c. 0 < c) text b plain some), long) refl

and_false : (a : Bool) → (a && false) ≡ false
and_false true = refl
and_false false = refl

-- a zero byte that would fit, or that is the first too many
zero_test : (text : List ℕ) → length text ≤ max_path → path_test (text ++ 0 ∷ []) ≡ failed_test (Broken ZeroChar)
zero_test text room =
    let front : take (max_path + 1) (text ++ 0 ∷ []) ≡ text ++ 0 ∷ [] = take_all (max_path + 1) (text ++ 0 ∷ []) (omega (arith, room, length-append text (0 ∷ []))) in
    let zero : list_all (ltb 0) (text ++ 0 ∷ []) ≡ false = list_all-append (ltb 0) text (0 ∷ []) ∙ and_false (list_all (ltb 0) text) in
    rw (front, zero) refl

-- ---- where the loop leaves

-- the mark came
pub path_done : (mark : ℕ) (text : List ℕ) (f f1 f2 : FeedState) (l l1 l2 : Option (List ℕ)) → TookKnown f l f1 l1 text → TookKnown f1 l1 f2 l2 (mark ∷ []) → PathKnown mark text f l f2 l2 (Ok true)
path_done mark text f f1 f2 None l1 l2 t u = tt
path_done mark text f f1 f2 (Some a) None l2 t u = absurd t
path_done mark text f f1 f2 (Some a) (Some b) None t u = absurd u
path_done mark text f f1 f2 (Some a) (Some b) (Some c) t u = inl (took_then f f1 f2 (Some a) (Some b) (Some c) text (mark ∷ []) t u)

-- the mark came at once
pub path_empty : (mark : ℕ) (text : List ℕ) (f f1 f2 : FeedState) (l l1 l2 : Option (List ℕ)) → text ≡ [] → TookKnown f l f1 l1 text → TookKnown f1 l1 f2 l2 (mark ∷ []) → PathKnown mark text f l f2 l2 (Err (Stopped (Broken EmptyPath)))
path_empty mark text f f1 f2 None l1 l2 none t u = tt
path_empty mark text f f1 f2 (Some a) None l2 none t u = absurd t
path_empty mark text f f1 f2 (Some a) (Some b) None none t u = absurd u
path_empty mark text f f1 f2 (Some a) (Some b) (Some c) none t u =
    let whole : (window f a).bytes ≡ mark ∷ (window f2 c).bytes = window_took f f2 a c (text ++ mark ∷ []) (took_then f f1 f2 (Some a) (Some b) (Some c) text (mark ∷ []) t u) ∙ ap (λ (x : List ℕ). (x ++ mark ∷ []) ++ (window f2 c).bytes) none in
    (ap (item_at mark (not (window f a).more)) whole ∙ empty_marked mark (not (window f a).more) (window f2 c).bytes, refl)

-- a byte came that breaks a rule
broken_by : (mark : ℕ) (text path : List ℕ) (b : ℕ) (s : Stop) (f f2 : FeedState) (a c : List ℕ) → Bare mark (text ++ b ∷ []) → path_test (text ++ b ∷ []) ≡ failed_test s → Took f a f2 c (text ++ b ∷ []) → item_at mark (not (window f a).more) (window f a).bytes ≡ Err s
broken_by mark text path b s f f2 a c bare e t =
    ap (item_at mark (not (window f a).more)) (window_took f f2 a c (text ++ b ∷ []) t) ∙ stays_open mark (not (window f a).more) (text ++ b ∷ []) (window f2 c).bytes s bare e (split_bytes mark (window f2 c).bytes)

pub path_long : (mark : ℕ) (text path : List ℕ) (b : ℕ) (f f1 f2 : FeedState) (l l1 l2 : Option (List ℕ)) → Part mark text → b ≢ mark → 0 < b → max_path ≡ length text → TookKnown f l f1 l1 text → TookKnown f1 l1 f2 l2 (b ∷ []) → PathKnown mark path f l f2 l2 (Err (Stopped (Broken LongPath)))
path_long mark text path b f f1 f2 None l1 l2 h other some full t u = tt
path_long mark text path b f f1 f2 (Some a) None l2 h other some full t u = absurd t
path_long mark text path b f f1 f2 (Some a) (Some x) None h other some full t u = absurd u
path_long mark text path b f f1 f2 (Some a) (Some x) (Some c) h other some full t u =
    (broken_by mark text path b (Broken LongPath) f f2 a c (All-push (λ c. c ≢ mark) text b h.bare other) (long_test text b h.plain some full) (took_then f f1 f2 (Some a) (Some x) (Some c) text (b ∷ []) t u), refl)

pub path_zero : (mark : ℕ) (text path : List ℕ) (f f1 f2 : FeedState) (l l1 l2 : Option (List ℕ)) → Part mark text → 0 ≢ mark → TookKnown f l f1 l1 text → TookKnown f1 l1 f2 l2 (0 ∷ []) → PathKnown mark path f l f2 l2 (Err (Stopped (Broken ZeroChar)))
path_zero mark text path f f1 f2 None l1 l2 h other t u = tt
path_zero mark text path f f1 f2 (Some a) None l2 h other t u = absurd t
path_zero mark text path f f1 f2 (Some a) (Some x) None h other t u = absurd u
path_zero mark text path f f1 f2 (Some a) (Some x) (Some c) h other t u =
    (broken_by mark text path 0 (Broken ZeroChar) f f2 a c (All-push (λ c. c ≢ mark) text 0 h.bare other) (zero_test text h.fits) (took_then f f1 f2 (Some a) (Some x) (Some c) text (0 ∷ []) t u), refl)

-- the file ended behind a path
pub path_last : (mark : ℕ) (text : List ℕ) (f f1 f2 : FeedState) (l l1 l2 : Option (List ℕ)) → TookKnown f l f1 l1 text → TookKnown f1 l1 f2 l2 [] → f2.held ≡ [] → f2.ended ≡ true → f2.offset < limit → PathKnown mark text f l f2 l2 (Ok true)
path_last mark text f f1 f2 None l1 l2 t u none shut below = tt
path_last mark text f f1 f2 (Some a) None l2 t u none shut below = absurd t
path_last mark text f f1 f2 (Some a) (Some b) None t u none shut below = absurd u
path_last mark text f f1 f2 (Some a) (Some b) (Some c) t u none shut below =
    inr (subst (Took f a f2 c) (append-nil text) (took_then f f1 f2 (Some a) (Some b) (Some c) text [] t u), record { held = none; ended = shut; below = below })

-- the file ended, and no byte stood there
pub path_end : (mark : ℕ) (text : List ℕ) (f f1 f2 : FeedState) (l l1 l2 : Option (List ℕ)) → text ≡ [] → TookKnown f l f1 l1 text → TookKnown f1 l1 f2 l2 [] → f2.held ≡ [] → f2.ended ≡ true → f2.offset < limit → PathKnown mark text f l f2 l2 (Ok false)
path_end mark text f f1 f2 None l1 l2 empty t u none shut below = tt
path_end mark text f f1 f2 (Some a) None l2 empty t u none shut below = absurd t
path_end mark text f f1 f2 (Some a) (Some b) None empty t u none shut below = absurd u
path_end mark text f f1 f2 (Some a) (Some b) (Some c) empty t u none shut below =
    (subst (Took f a f2 c) (append-nil text ∙ empty) (took_then f f1 f2 (Some a) (Some b) (Some c) text [] t u), record { held = none; ended = shut; below = below })

abbrev whole : Item → Item
whole i = i

as_known : (mark : ℕ) (path : List ℕ) (f f2 : FeedState) (l l2 : Option (List ℕ)) → StreamGives {X = Item} whole (item_at mark false) f l f2 l2 (Err ReadFault) → PathKnown mark path f l f2 l2 (Err ReadFault)
unfolding StreamGives
as_known mark path f f2 None l2 g = tt
as_known mark path f f2 (Some a) None g = absurd g
as_known mark path f f2 (Some a) (Some b) g = g

as_large : (mark : ℕ) (path : List ℕ) (f f2 : FeedState) (l l2 : Option (List ℕ)) → StreamGives {X = Item} whole (item_at mark false) f l f2 l2 (Err TooLarge) → PathKnown mark path f l f2 l2 (Err TooLarge)
unfolding StreamGives
as_large mark path f f2 None l2 g = tt
as_large mark path f f2 (Some a) None g = absurd g
as_large mark path f f2 (Some a) (Some b) g = g

-- the source failed
pub path_fault : (mark : ℕ) (text path : List ℕ) (f f1 f2 : FeedState) (l l1 l2 : Option (List ℕ)) → Part mark text → TookKnown f l f1 l1 text → f2 ≡ f1 → l2 ≡ l1 → f2.held ≡ [] → f2.ended ≡ false → PathKnown mark path f l f2 l2 (Err ReadFault)
path_fault mark text path f f1 f2 l l1 l2 h t same left none going =
    as_known mark path f f2 l l2 (cut_off (item_at mark false) whole text f f1 f2 l l1 l2 ReadFault (part_cut mark text h) t (byte_fault f1 f2 l1 l2 (took_same f1 f2 l1 l2 same left) none going))

-- the limit came
pub path_large : (mark : ℕ) (text path : List ℕ) (f f1 f2 : FeedState) (l l1 l2 : Option (List ℕ)) → Part mark text → TookKnown f l f1 l1 text → f2 ≡ f1 → l2 ≡ l1 → f1.offset ≡ limit → PathKnown mark path f l f2 l2 (Err TooLarge)
path_large mark text path f f1 f2 l l1 l2 h t same left there =
    as_large mark path f f2 l l2 (cut_off (item_at mark false) whole text f f1 f2 l l1 l2 TooLarge (part_cut mark text h) t (byte_large f1 f2 l1 l2 (took_same f1 f2 l1 l2 same left) there))

-- a path was held with its mark
pub path_held : (mark : ℕ) (path : List ℕ) (f f' : FeedState) (l : Option (List ℕ)) → f'.ended ≡ f.ended → f.held ≡ marked mark path ++ f'.held → f'.offset ≡ f.offset + (length path + 1) → f'.offset ≤ limit → PathKnown mark path f l f' l (Ok true)
path_held mark path f f' None still parts moved fits = tt
path_held mark path f f' (Some a) still parts moved fits = inl (took_held f f' (Some a) (marked mark path) still parts (omega (arith, moved, length-append path (mark ∷ []))) fits)
