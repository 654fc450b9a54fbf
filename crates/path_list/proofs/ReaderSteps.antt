-- What a reader does to the rest of the list.
use Rattle.std.proofs.Common.{◌≡◌, ◌≢◌, ℕ, ◌+◌, ◌-◌, Bool, true, false, not, eqb, List, [], ◌∷◌, length, take, Option, Some, None, Result, Ok, Err, refl, sym, ap, subst, ◌∙◌, inl, inr, arith}
use Rattle.std.specs.Prelude.{nat_le}
use Rattle.std.proofs.lemmas.Bool.{eqb-true, lt-leb}
use Rattle.std.proofs.lemmas.List.{nil_from_length}
use Rattle.std.proofs.lemmas.List.Elements.{All-nil}
use Rattle.std.proofs.Math.Seq.{take-nil}
use Rattle.byte_feed.specs.declared.damage.DamageCause.TheVariants.{Cut}
use Rattle.byte_feed.specs.declared.damage.Break.{Break}
use Rattle.byte_feed.specs.declared.damage.Break.TheVariants.{ReadFault, TooLarge, Stopped}
use Rattle.byte_feed.specs.declared.damage.DbFault.TheVariants as faults
use Rattle.byte_feed.specs.declared.damage.Stop.{Stop}
use Rattle.byte_feed.specs.declared.damage.Stop.TheVariants.{NotADatabase, Broken}
use Rattle.byte_feed.specs.Front.{limit, Window}
use Rattle.byte_feed.specs.Feed.{FeedState, file, window, so_far, Took}
use Rattle.byte_feed.specs.Stream.{is_cut, Fails}
use Rattle.byte_feed.specs.Endings.{Ending, end_at, damage_at, fault_at}
use Rattle.byte_feed.specs.Paths.{ToCome, rest_of, after_item, no_items, to_come, after_paths, no_paths, before_base}
use Rattle.byte_feed.specs.Calls.{Moved, MovedKnown, EndsBy, EndsKnown}
use Rattle.byte_feed.proofs.TakenOff.{file_shut, window_took, more_took, so_far_took}
use Rattle.byte_feed.proofs.Steps.{rest_more, rest_none, paths_by_items}
use Rattle.byte_feed.proofs.Preambles.{ends_paths}
use Rattle.path_list.specs.declared.reader.Stage.{Stage}
use Rattle.path_list.specs.declared.reader.Stage.TheVariants as stages
use Rattle.path_list.specs.Items.{Item, Marked, Unmarked, marked, IsListed, item_at, list_by}
use Rattle.path_list.specs.Marks.{byte_of}
use Rattle.path_list.specs.Streams.{IsAtLast, TookPath, StopsPath, PathKnown}
use Rattle.path_list.specs.Reader.{ReaderState, is_live, is_done, paths_left, path_found}
use Rattle.path_list.proofs.ItemLaws.{item_open, item_again, list_shrinks}

-- ---- the end of a file

-- no byte is to come
last_window : (f : FeedState) (a : List ℕ) → IsAtLast f → ((window f a).bytes ≡ []) × ((window f a).more ≡ false)
last_window f a h =
    let none : file f a ≡ [] = file_shut f a h.ended ∙ h.held in
    (ap (take (limit - f.offset)) none ∙ take-nil (limit - f.offset), ap (λ (l : List ℕ). nat_le limit (f.offset + length l)) none ∙ lt-leb limit (f.offset + 0) (omega (arith, h.below)))

shut_open : (b : Bool) → b ≡ true → b ≡ false → ⊥
shut_open b e h = absurd cc

-- ---- a path

abbrev left_of : ℕ → ℕ → Window → ToCome
left_of mark place w = to_come (list_by mark) tt place 0 w

-- a path and its mark were given off the rest of the file
moved_marked : (mark : ℕ) (path : List ℕ) (f f' : FeedState) (a b : List ℕ) → IsListed mark path → Took f a f' b (marked mark path)
    → Moved (rest_of (list_by mark) tt f.offset) (rest_of (list_by mark) tt f'.offset) (after_item (list_by mark) (Marked path)) f a f' b
moved_marked mark path f f' a b h t =
    let i : Item = Marked path in
    let placed : (w : Window) → after_item (list_by mark) i (rest_of (list_by mark) tt (f.offset + length (marked mark path)) w) ≡ after_item (list_by mark) i (rest_of (list_by mark) tt f'.offset w) =
    λ w. ap (λ (p : ℕ). after_item (list_by mark) i (rest_of (list_by mark) tt p w)) (sym t.offset) in
    record {
      whole =
          let parts = window_took f f' a b (marked mark path) t in
          rest_more (list_by mark) (list_shrinks mark) tt f.offset (window f a) (window f' b) i (marked mark path) parts (more_took f f' a b (marked mark path) t)
          (ap (item_at mark (not (window f a).more)) parts ∙ item_again mark (not (window f a).more) i (window f' b).bytes h)
          ∙ placed (window f' b);
      goes_on = t.goes_on;
      parts = λ going n le.
          let parts = so_far_took f f' a b (marked mark path) n t going le in
          rest_more (list_by mark) (list_shrinks mark) tt f.offset (so_far f a n) (so_far f' b n) i (marked mark path) parts refl
          (ap (item_at mark false) parts ∙ item_again mark false i (so_far f' b n).bytes h)
          ∙ placed (so_far f' b n);
    }

-- the same of the last path, without its mark
moved_unmarked : (mark : ℕ) (path : List ℕ) (f f' : FeedState) (a b : List ℕ) → IsListed mark path → Took f a f' b path → IsAtLast f'
    → Moved (rest_of (list_by mark) tt f.offset) (rest_of (list_by mark) tt f'.offset) (after_item (list_by mark) (Unmarked path)) f a f' b
moved_unmarked mark path f f' a b h t last =
    let i : Item = Unmarked path in
    let end = last_window f' b last in
    record {
      whole =
          let parts = window_took f f' a b path t in
          let same = more_took f f' a b path t in
          let ends : not (window f a).more ≡ true = ap not (sym same ∙ end.1) in
          rest_more (list_by mark) (list_shrinks mark) tt f.offset (window f a) (window f' b) i path parts same
          (ap (item_at mark (not (window f a).more)) parts ∙ item_again mark (not (window f a).more) i (window f' b).bytes (h, ends, end.0))
          ∙ ap (λ (p : ℕ). after_item (list_by mark) i (rest_of (list_by mark) tt p (window f' b))) (sym t.offset);
      goes_on = λ going. absurd (shut_open f'.ended last.ended going);
      parts = λ going n le. absurd (shut_open f'.ended last.ended going);
    }

abbrev found : List ℕ → ℕ → ToCome → ToCome
found text place t = after_paths (record { text = text; dir_len = before_base text; heads = 0; place = place } ∷ []) t

path_by : (mark : ℕ) (path : List ℕ) (f f' : FeedState) (a b : List ℕ) → IsListed mark path → TookPath mark path f a f' b → Moved (left_of mark f.offset) (left_of mark f'.offset) (found path f'.offset) f a f' b
path_by mark path f f' a b h (inl t) = paths_by_items (list_by mark) tt tt f.offset f'.offset 0 (Marked path) f f' (Some a) (Some b) refl (moved_marked mark path f f' a b h t)
path_by mark path f f' a b h (inr t) = paths_by_items (list_by mark) tt tt f.offset f'.offset 0 (Unmarked path) f f' (Some a) (Some b) refl (moved_unmarked mark path f f' a b h t.0 t.1)

path_moved : (mark : ℕ) (path : List ℕ) (f f' : FeedState) (l l' : Option (List ℕ)) → IsListed mark path → PathKnown mark path f l f' l' (Ok true) → MovedKnown (left_of mark f.offset) (left_of mark f'.offset) (found path f'.offset) f l f' l'
path_moved mark path f f' None l' h k = tt
path_moved mark path f f' (Some a) None h k = absurd k
path_moved mark path f f' (Some a) (Some b) h k = path_by mark path f f' a b h k

-- ---- where no path is left

nothing_at : (mark : ℕ) (last : Bool) → item_at mark last [] ≡ Err (Broken Cut)
nothing_at mark true = item_open mark true [] (All-nil (λ b. b ≢ mark))
nothing_at mark false = item_open mark false [] (All-nil (λ b. b ≢ mark))

ended_at : (mark place : ℕ) (w : Window) → w.bytes ≡ [] → w.more ≡ false → rest_of (list_by mark) tt place w ≡ no_items (list_by mark) place (Ok tt)
ended_at mark place w none last =
    rest_none (list_by mark) tt place w (Broken Cut) (ap (item_at mark (not w.more)) none ∙ nothing_at mark (not w.more))
    ∙ ap (λ (b : List ℕ). no_items (list_by mark) place (end_at (list_by mark) place tt b w.more)) none
    ∙ ap (λ (m : Bool). no_items (list_by mark) place (end_at (list_by mark) place tt [] m)) last

path_end : (mark : ℕ) (path : List ℕ) (f f' : FeedState) (l l' : Option (List ℕ)) → PathKnown mark path f l f' l' (Ok false) → EndsKnown (rest_of (list_by mark) tt f.offset) (no_items (list_by mark) f.offset) f l l' (Ok tt)
path_end mark path f f' None l' k = tt
path_end mark path f f' (Some a) None k = absurd k
path_end mark path f f' (Some a) (Some b) k =
    let end = last_window f' b k.1 in
    ended_at mark f.offset (window f a) (window_took f f' a b [] k.0 ∙ end.0) (sym (more_took f f' a b [] k.0) ∙ end.1)

-- ---- where reading breaks off

abbrev failed : Stop → Result (Item × List ℕ) Stop
failed s = Err s

abbrev cut_or : Result (Item × List ℕ) Stop → Bool
cut_or (Ok x) = true
cut_or (Err s) = is_cut s

empty_stop : (mark : ℕ) (last : Bool) (bytes : List ℕ) (s : Stop) → bytes ≡ [] → item_at mark last bytes ≡ failed s → is_cut s ≡ true
empty_stop mark last bytes s none e = ap cut_or (sym e ∙ ap (item_at mark last) none ∙ nothing_at mark last)

stops_by : (mark place : ℕ) (bytes : List ℕ) (more b : Bool) (s : Stop) → eqb (length bytes) 0 ≡ b → item_at mark (not more) bytes ≡ failed s → is_cut s ≡ false → end_at (list_by mark) place tt bytes more ≡ Err (damage_at place s)
stops_by mark place bytes more true s is e apart = absurd (shut_open (is_cut s) (empty_stop mark (not more) bytes s (nil_from_length bytes (eqb-true (length bytes) 0 is)) e) apart)
stops_by mark place bytes more false s is e apart = rw (is, e, apart) refl

large_by : (mark place : ℕ) (bytes : List ℕ) (b : Bool) → eqb (length bytes) 0 ≡ b → item_at mark false bytes ≡ failed (Broken Cut) → end_at (list_by mark) place tt bytes true ≡ Err faults.TooLarge
large_by mark place bytes true is e = rw is refl
large_by mark place bytes false is e = rw (is, e) refl

fails_by : {A : Type 0} (r : Result A Stop) → Fails r → (P : Type 0) → ((s : Stop) → r ≡ Err s → P) → P
fails_by (Ok x) h P go = absurd h
fails_by (Err s) h P go = go s refl

breaks_by : (mark : ℕ) (f : FeedState) (a : List ℕ) (n : ℕ) (e : Break) → StopsPath mark f a n e → EndsBy (rest_of (list_by mark) tt f.offset) (no_items (list_by mark) f.offset) f a n (Err (fault_at f.offset e))
breaks_by mark f a n ReadFault g =
    fails_by (item_at mark false (so_far f a n).bytes) g.none _ (λ stop none.
    record { goes_on = g.goes_on; fewer = g.fewer; ending = end_at (list_by mark) f.offset tt (so_far f a n).bytes true; nothing = rest_none (list_by mark) tt f.offset (so_far f a n) stop none })
breaks_by mark f a n TooLarge g =
    let w = window f a in
    rest_none (list_by mark) tt f.offset w (Broken Cut) (ap (λ (m : Bool). item_at mark (not m) w.bytes) g.1 ∙ g.0)
    ∙ ap (λ (m : Bool). no_items (list_by mark) f.offset (end_at (list_by mark) f.offset tt w.bytes m)) g.1
    ∙ ap (no_items (list_by mark) f.offset) (large_by mark f.offset w.bytes (eqb (length w.bytes) 0) refl g.0)
breaks_by mark f a n (Stopped NotADatabase) g =
    rest_none (list_by mark) tt f.offset (window f a) NotADatabase g.0 ∙ ap (no_items (list_by mark) f.offset) (stops_by mark f.offset (window f a).bytes (window f a).more _ NotADatabase refl g.0 g.1)
breaks_by mark f a n (Stopped (Broken c)) g =
    rest_none (list_by mark) tt f.offset (window f a) (Broken c) g.0 ∙ ap (no_items (list_by mark) f.offset) (stops_by mark f.offset (window f a).bytes (window f a).more _ (Broken c) refl g.0 g.1)

path_err : (mark : ℕ) (path : List ℕ) (f f' : FeedState) (l l' : Option (List ℕ)) (e : Break) → PathKnown mark path f l f' l' (Err e) → EndsKnown (rest_of (list_by mark) tt f.offset) (no_items (list_by mark) f.offset) f l l' (Err (fault_at f.offset e))
path_err mark path f f' None l' e k = tt
path_err mark path f f' (Some a) None e k = absurd k
path_err mark path f f' (Some a) (Some b) e k = breaks_by mark f a (length b) e k

-- ---- a live reader

left_is : (r : ReaderState) (p : ℕ) → r.place ≡ p → left_of (byte_of r.mark) p ≡ paths_left r
left_is r p at = λ i w. left_of (byte_of r.mark) (sym at i) w

pub next_found : (r r' : ReaderState) (l l' : Option (List ℕ)) → r.place ≡ r.feed.offset → r'.place ≡ r'.feed.offset → r'.mark ≡ r.mark → IsListed (byte_of r.mark) r'.path
    → PathKnown (byte_of r.mark) r'.path r.feed l r'.feed l' (Ok true) → MovedKnown (paths_left r) (paths_left r') (after_paths (path_found r' ∷ [])) r.feed l r'.feed l'
next_found r r' l l' at at' same h k =
    let m = path_moved (byte_of r.mark) r'.path r.feed r'.feed l l' h k in
    let after : left_of (byte_of r.mark) r'.feed.offset ≡ paths_left r' = λ i w. left_of (byte_of (sym same i)) (sym at' i) w in
    let placed : ℕ → ToCome → ToCome = λ p. found r'.path p in
    subst (λ (t : Window → ToCome). MovedKnown t (paths_left r') (after_paths (path_found r' ∷ [])) r.feed l r'.feed l') (left_is r r.feed.offset at)
    (subst (λ (t : Window → ToCome). MovedKnown (left_of (byte_of r.mark) r.feed.offset) t (after_paths (path_found r' ∷ [])) r.feed l r'.feed l') after
    (subst (λ (p : ℕ). MovedKnown (left_of (byte_of r.mark) r.feed.offset) (left_of (byte_of r.mark) r'.feed.offset) (placed p) r.feed l r'.feed l') (sym at') m))

ends_left : (r : ReaderState) (l l' : Option (List ℕ)) (e : Ending) → r.place ≡ r.feed.offset → EndsKnown (rest_of (list_by (byte_of r.mark)) tt r.feed.offset) (no_items (list_by (byte_of r.mark)) r.feed.offset) r.feed l l' e
    → EndsKnown (paths_left r) (no_paths r.place 0) r.feed l l' e
ends_left r l l' e at h =
    let ended = ends_paths (list_by (byte_of r.mark)) tt r.feed.offset r.feed.offset 0 r.feed l l' e h in
    subst (λ (t : Window → ToCome). EndsKnown t (no_paths r.place 0) r.feed l l' e) (left_is r r.feed.offset at)
    (subst (λ (n : ℕ). EndsKnown (left_of (byte_of r.mark) r.feed.offset) (no_paths n 0) r.feed l l' e) (sym at) ended)

pub next_end : (r : ReaderState) (path : List ℕ) (f : FeedState) (l l' : Option (List ℕ)) → r.place ≡ r.feed.offset → PathKnown (byte_of r.mark) path r.feed l f l' (Ok false) → EndsKnown (paths_left r) (no_paths r.place 0) r.feed l l' (Ok tt)
next_end r path f l l' at k = ends_left r l l' (Ok tt) at (path_end (byte_of r.mark) path r.feed f l l' k)

pub next_err : (r : ReaderState) (path : List ℕ) (f : FeedState) (l l' : Option (List ℕ)) (e : Break) → r.place ≡ r.feed.offset → PathKnown (byte_of r.mark) path r.feed l f l' (Err e) → EndsKnown (paths_left r) (no_paths r.place 0) r.feed l l' (Err (fault_at r.place e))
next_err r path f l l' e at k =
    ends_left r l l' (Err (fault_at r.place e)) at (subst (λ (n : ℕ). EndsKnown (rest_of (list_by (byte_of r.mark)) tt r.feed.offset) (no_items (list_by (byte_of r.mark)) r.feed.offset) r.feed l l' (Err (fault_at n e))) (sym at) (path_err (byte_of r.mark) path r.feed f l l' e k))

-- ---- stages

pub live_not_done : (s : Stage) → is_live s ≡ true → is_done s ≡ false
live_not_done stages.Fresh e = absurd cc
live_not_done stages.Live e = refl
live_not_done stages.Done e = absurd cc
