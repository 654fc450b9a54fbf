-- What is left to come after a step of a reader.
use Rattle.std.proofs.Common.{◌≡◌, ℕ, ◌+◌, Bool, true, false, List, [], ◌∷◌, ◌++◌, length, map, filter, Option, Some, None, Ok, Err, MatchBool, IsTrue, Contains, refl, sym, ap, ◌∙◌, subst, arith, length-append, Less}
use Rattle.std.specs.Prelude.{◌&&◌, if◌then◌else◌}
use Rattle.std.proofs.lemmas.List.Elements.{Contains-append_right}
use Rattle.path_order.specs.Order.{path_cmp}
use Rattle.byte_feed.specs.declared.damage.DbFault.{DbFault}
use Rattle.byte_feed.specs.declared.damage.DbFault.TheVariants as faults
use Rattle.byte_feed.specs.Front.{Window, spelling}
use Rattle.byte_feed.specs.Feed.{FeedState, window}
use Rattle.byte_feed.specs.Endings.{Ending, is_read_fault}
use Rattle.byte_feed.specs.Paths.{Rest, rest_of, after_item, no_items}
use Rattle.byte_feed.specs.Calls.{MovedKnown, Broke, EndsKnown}
use Rattle.mlocate_db.specs.Items.{Head, Item, HeadItem, spell, mlocate}
use Rattle.mlocate_db.specs.Reader.{ReaderState, is_live, items_left}
use Rattle.tree_scan.specs.Records.{Record}
use Rattle.dir_reuse.specs.Usable.{record_of, has_end, are_usable, leading_entries, head_paths}
use Rattle.dir_reuse.specs.Seeking.{SeekKnown, stop_of}
use Rattle.dir_reuse.specs.Coming.{size, size_behind, Placed, placed_at, placed_in, Coming, coming_in, nothing, head_of, coming, coming_at, not_before, Skips, GoesKnown, Short, StopsKnown}

-- ---- skips

pub skips_none : (dir : List ℕ) (c : Coming) → Skips dir c c
skips_none dir c = record { same = refl; some = λ r h. h; rise = λ h. h }

pub skips_then : (dir : List ℕ) (a b c : Coming) → Skips dir a b → Skips dir b c → Skips dir a c
skips_then dir a b c p q = record { same = p.same ∙ q.same; some = λ r h. p.some r (q.some r h); rise = λ h. q.rise (p.rise h) }

pub skips_same : (dir : List ℕ) (a b : Coming) → a ≡ b → Skips dir a b
skips_same dir a b e = subst (Skips dir a) e (skips_none dir a)

and_right : (a b : Bool) → IsTrue (a && b) → IsTrue b
and_right true b h = h
and_right false b h = absurd cc

one_before : (dir : List ℕ) (r : Record) (e : ℕ) (rest : List Placed) → path_cmp r.path dir ≡ Less → filter (not_before dir) ((r, e) ∷ rest) ≡ filter (not_before dir) rest
one_before dir r e rest less = rw less refl

-- the record of a head that comes before the path
own_before : (dir : List ℕ) (version : ℕ) (head : Head) (names : _) (e : ℕ) (usable : Bool) (rest : List Placed) → path_cmp head.path dir ≡ Less
    → filter (not_before dir) (map (λ (r : Record). (r, e)) (if usable then record_of version head names ∷ [] else []) ++ rest) ≡ filter (not_before dir) rest
own_before dir version head names e true rest less = one_before dir (record_of version head names) e rest less
own_before dir version head names e false rest less = refl

some_behind : (mine rest : List Placed) (r : Record) → Contains (map (λ (b : Placed). b.0) rest) r → Contains (map (λ (b : Placed). b.0) (mine ++ rest)) r
some_behind [] rest r h = h
some_behind (b ∷ mine) rest r h = Contains-append_right (b.0 ∷ []) _ r (some_behind mine rest r h)

-- the head in hand is passed
pub passes_head : (dir : List ℕ) (r : ReaderState) (w : Window) → is_live r.stage ≡ true → path_cmp r.path dir ≡ Less → Skips dir (coming_at r w) (coming r w)
passes_head dir r w live less =
    let items : List Item = (items_left r w).items in
    let still : coming r w ≡ coming_in r.version r.place items = ap (λ (b : Bool). if b then coming_in r.version r.place items else nothing) live in
    subst (Skips dir (coming_at r w)) (sym still) (record {
      same = own_before dir r.version (head_of r) (leading_entries items) (r.place + size_behind items) (has_end items && are_usable (leading_entries items)) (placed_in r.version r.place items) less;
      some = some_behind (placed_at r.version r.place (head_of r) items) (placed_in r.version r.place items);
      rise = and_right _ _;
    })

-- ---- steps

-- the place moves by the size of the item
pub place_moves : (r r' : ReaderState) (w w' : Window) (i : Item) → items_left r w ≡ after_item mlocate i (items_left r' w') → r.place + size i ≡ r'.place
unfolding rest_of size
place_moves r r' w w' i e =
    let items : List Item = (items_left r w).items in
    let items' : List Item = (items_left r' w').items in
    let same : items ≡ i ∷ items' = ap (λ (x : Rest mlocate). x.items) e in
    let ends : r.place + length (spelling mlocate items) ≡ r'.place + length (spelling mlocate items') = ap (λ (x : Rest mlocate). x.place) e in
    let more : length (spelling mlocate items) ≡ length (spell i) + length (spelling mlocate items') = ap (λ (l : List Item). length (spelling mlocate l)) same ∙ length-append (spell i) (spelling mlocate items') in
    omega (arith, ends, more)

pub live_is : (r : ReaderState) (w : Window) → is_live r.stage ≡ true → coming r w ≡ coming_in r.version r.place (items_left r w).items
live_is r w live = ap (λ (b : Bool). if b then coming_in r.version r.place (items_left r w).items else nothing) live

step_in : (r r' : ReaderState) (w w' : Window) (i : Item) (Made : ℕ → List Item → Coming) → is_live r.stage ≡ true → items_left r w ≡ after_item mlocate i (items_left r' w')
    → ((items : List Item) → coming_in r.version r.place (i ∷ items) ≡ Made (r.place + size i) items) → coming r w ≡ Made r'.place (items_left r' w').items
step_in r r' w w' i Made live e made =
    live_is r w live
    ∙ ap (λ (x : Rest mlocate). coming_in r.version r.place x.items) e
    ∙ made (items_left r' w').items
    ∙ ap (λ (p : ℕ). Made p (items_left r' w').items) (place_moves r r' w w' i e)

-- an entry or an end
pub passes_item : (r r' : ReaderState) (w w' : Window) (i : Item) → is_live r.stage ≡ true → is_live r'.stage ≡ true → r'.version ≡ r.version
    → ((p : ℕ) (items : List Item) → coming_in r.version p (i ∷ items) ≡ coming_in r.version (p + size i) items) → items_left r w ≡ after_item mlocate i (items_left r' w') → coming r w ≡ coming r' w'
passes_item r r' w w' i live live' version plain e =
    step_in r r' w w' i (coming_in r.version) live e (plain r.place)
    ∙ ap (λ (v : ℕ). coming_in v r'.place (items_left r' w').items) (sym version)
    ∙ sym (live_is r' w' live')

-- a head, which is in hand then
pub finds_head : (r r' : ReaderState) (w w' : Window) → is_live r.stage ≡ true → r'.version ≡ r.version → items_left r w ≡ after_item mlocate (HeadItem (head_of r')) (items_left r' w') → coming r w ≡ coming_at r' w'
finds_head r r' w w' live version e =
    step_in r r' w w' (HeadItem (head_of r'))
    (λ p items. record { blocks = placed_at r.version p (head_of r') items ++ placed_in r.version p items; heads = r'.path ∷ head_paths items }) live e (λ items. refl)
    ∙ ap (λ (v : ℕ). let is : List Item = (items_left r' w').items in let c : Coming = record { blocks = placed_at v r'.place (head_of r') is ++ placed_in v r'.place is; heads = r'.path ∷ head_paths is } in c) (sym version)

-- ---- the whole file, and its first parts

pub goes_none : (dir : List ℕ) (t : Window → Coming) (f : FeedState) (l : Option (List ℕ)) → GoesKnown dir t t f l f l
goes_none dir t f None = tt
goes_none dir t f (Some a) = record { whole = skips_none dir _; goes_on = λ e. (e, omega arith); parts = λ e n le. skips_none dir _ }

pub goes_then : (dir : List ℕ) (t t' t'' : Window → Coming) (f f' f'' : FeedState) (l l' l'' : Option (List ℕ)) → GoesKnown dir t t' f l f' l' → GoesKnown dir t' t'' f' l' f'' l'' → GoesKnown dir t t'' f l f'' l''
goes_then dir t t' t'' f f' f'' None l' l'' p q = tt
goes_then dir t t' t'' f f' f'' (Some a) None l'' p q = absurd p
goes_then dir t t' t'' f f' f'' (Some a) (Some b) None p q = absurd q
goes_then dir t t' t'' f f' f'' (Some a) (Some b) (Some c) p q = record {
  whole = skips_then dir _ _ _ p.whole q.whole;
  goes_on = λ e. let r = q.goes_on e in let s = p.goes_on r.0 in (s.0, omega (arith, r.1, s.1));
  parts = λ e n le. let r = q.goes_on e in skips_then dir _ _ _ (p.parts r.0 n (omega (arith, r.1, le))) (q.parts e n le);
}

pub goes_by : (dir : List ℕ) (r r' : ReaderState) (i : Item) (t t' : Window → Coming) (f f' : FeedState) (l l' : Option (List ℕ)) → ((w w' : Window) → items_left r w ≡ after_item mlocate i (items_left r' w') → Skips dir (t w) (t' w'))
    → MovedKnown (items_left r) (items_left r') (after_item mlocate i) f l f' l' → GoesKnown dir t t' f l f' l'
goes_by dir r r' i t t' f f' None l' so m = tt
goes_by dir r r' i t t' f f' (Some a) None so m = absurd m
goes_by dir r r' i t t' f f' (Some a) (Some b) so m = record { whole = so _ _ m.whole; goes_on = m.goes_on; parts = λ e n le. so _ _ (m.parts e n le) }

goes_head : (dir : List ℕ) (t : Window → Coming) (r : ReaderState) (f f' : FeedState) (l l' : Option (List ℕ)) → is_live r.stage ≡ true → path_cmp r.path dir ≡ Less → GoesKnown dir t (coming_at r) f l f' l' → GoesKnown dir t (coming r) f l f' l'
goes_head dir t r f f' None l' live less m = tt
goes_head dir t r f f' (Some a) None live less m = absurd m
goes_head dir t r f f' (Some a) (Some b) live less m = record {
  whole = skips_then dir _ _ _ m.whole (passes_head dir r _ live less);
  goes_on = m.goes_on;
  parts = λ e n le. skips_then dir _ _ _ (m.parts e n le) (passes_head dir r _ live less);
}

pub goes_past : (dir : List ℕ) (t : Window → Coming) (r : ReaderState) (f f' : FeedState) (l l' : Option (List ℕ)) → is_live r.stage ≡ true → path_cmp r.path dir ≡ Less → GoesKnown dir t (coming_at r) f l f' l' → GoesKnown dir t (coming r) f l f' l'
goes_past dir t r f f' l l' live less m = goes_head dir t r f f' l l' live less m

pub stops_after : (dir : List ℕ) (t t' : Window → Coming) (f f' : FeedState) (l l' l'' : Option (List ℕ)) (failed : Bool) → GoesKnown dir t t' f l f' l' → StopsKnown failed dir t' f' l' l'' → StopsKnown failed dir t f l l''
stops_after dir t t' f f' None l' l'' failed m q = tt
stops_after dir t t' f f' (Some a) None l'' failed m q = absurd m
stops_after dir t t' f f' (Some a) (Some b) None failed m q = absurd q
stops_after dir t t' f f' (Some a) (Some b) (Some c) true m q =
    let on = m.goes_on q.goes_on in
    record { goes_on = on.0; fewer = omega (arith, on.1, q.fewer); came = skips_then dir _ _ _ (m.parts q.goes_on (length c) q.fewer) q.came }
stops_after dir t t' f f' (Some a) (Some b) (Some c) false m q = skips_then dir _ _ _ m.whole q

none_left : (dir : List ℕ) (r : ReaderState) (w : Window) (e : Ending) → items_left r w ≡ no_items mlocate r.place e → Skips dir (coming r w) nothing
none_left dir r w e k = by (is_live r.stage) refl
  where
    by : (b : Bool) → is_live r.stage ≡ b → Skips dir (if b then coming_in r.version r.place (items_left r w).items else nothing) nothing
    by true live = skips_same dir _ _ (ap (λ (x : Rest mlocate). coming_in r.version r.place x.items) k)
    by false live = skips_none dir nothing

stops_by : (dir : List ℕ) (r : ReaderState) (f : FeedState) (a : List ℕ) (n : ℕ) (e : Ending) (failed : Bool) → MatchBool failed (Broke (items_left r) (no_items mlocate r.place) f a n) (items_left r (window f a) ≡ no_items mlocate r.place e)
    → MatchBool failed (Short dir (coming r) f a n) (Skips dir (coming r (window f a)) nothing)
stops_by dir r f a n e true q = record { goes_on = q.goes_on; fewer = q.fewer; came = none_left dir r _ q.ending q.nothing }
stops_by dir r f a n e false q = none_left dir r _ e q

-- no item was read
pub stops_here : (dir : List ℕ) (r : ReaderState) (f : FeedState) (l l' : Option (List ℕ)) (e : Ending) (failed : Bool) → is_read_fault e ≡ failed → EndsKnown (items_left r) (no_items mlocate r.place) f l l' e → StopsKnown failed dir (coming r) f l l'
stops_here dir r f None l' e failed is q = tt
stops_here dir r f (Some a) None e failed is q = absurd q
stops_here dir r f (Some a) (Some b) e failed is q = subst (λ (x : Bool). MatchBool x (Short dir (coming r) f a (length b)) (Skips dir (coming r (window f a)) nothing)) is (stops_by dir r f a (length b) e (is_read_fault e) q)

-- ---- a step of the reader

pub goes_to_head : (dir : List ℕ) (t : Window → Coming) (r r' : ReaderState) (f f' f'' : FeedState) (l l' l'' : Option (List ℕ)) → is_live r.stage ≡ true → r'.version ≡ r.version → GoesKnown dir t (coming r) f l f' l'
    → MovedKnown (items_left r) (items_left r') (after_item mlocate (HeadItem (head_of r'))) f' l' f'' l'' → GoesKnown dir t (coming_at r') f l f'' l''
goes_to_head dir t r r' f f' f'' l l' l'' live version m step =
    goes_then dir t (coming r) (coming_at r') f f' f'' l l' l'' m
    (goes_by dir r r' (HeadItem (head_of r')) (coming r) (coming_at r') f' f'' l' l'' (λ w w' e. skips_same dir _ _ (finds_head r r' w w' live version e)) step)

pub goes_past_item : (dir : List ℕ) (t : Window → Coming) (r r' : ReaderState) (i : Item) (f f' f'' : FeedState) (l l' l'' : Option (List ℕ)) → is_live r.stage ≡ true → is_live r'.stage ≡ true → r'.version ≡ r.version
    → ((p : ℕ) (items : List Item) → coming_in r.version p (i ∷ items) ≡ coming_in r.version (p + size i) items) → GoesKnown dir t (coming r) f l f' l'
    → MovedKnown (items_left r) (items_left r') (after_item mlocate i) f' l' f'' l'' → GoesKnown dir t (coming r') f l f'' l''
goes_past_item dir t r r' i f f' f'' l l' l'' live live' version plain m step =
    goes_then dir t (coming r) (coming r') f f' f'' l l' l'' m
    (goes_by dir r r' i (coming r) (coming r') f' f'' l' l'' (λ w w' e. skips_same dir _ _ (passes_item r r' w w' i live live' version plain e)) step)

-- the end of the file, or a fault
pub seeks_end : (dir : List ℕ) (r0 r r' : ReaderState) (l l' l'' : Option (List ℕ)) → GoesKnown dir (coming r0) (coming r) r0.feed l r.feed l' → EndsKnown (items_left r) (no_items mlocate r.place) r.feed l' l'' (Ok tt)
    → StopsKnown false dir (coming r0) r0.feed l l''
seeks_end dir r0 r r' l l' l'' m q = stops_after dir (coming r0) (coming r) r0.feed r.feed l l' l'' false m (stops_here dir r r.feed l' l'' (Ok tt) false refl q)

pub seeks_fault : (dir : List ℕ) (r0 r r' : ReaderState) (l l' l'' : Option (List ℕ)) (fault : DbFault) → GoesKnown dir (coming r0) (coming r) r0.feed l r.feed l' → EndsKnown (items_left r) (no_items mlocate r.place) r.feed l' l'' (Err fault)
    → SeekKnown dir (stop_of fault) r0 l r' l''
seeks_fault dir r0 r r' l l' l'' faults.ReadFault m q = stops_after dir (coming r0) (coming r) r0.feed r.feed l l' l'' true m (stops_here dir r r.feed l' l'' (Err faults.ReadFault) true refl q)
seeks_fault dir r0 r r' l l' l'' faults.NotADatabase m q = stops_after dir (coming r0) (coming r) r0.feed r.feed l l' l'' false m (stops_here dir r r.feed l' l'' (Err faults.NotADatabase) false refl q)
seeks_fault dir r0 r r' l l' l'' faults.TooLarge m q = stops_after dir (coming r0) (coming r) r0.feed r.feed l l' l'' false m (stops_here dir r r.feed l' l'' (Err faults.TooLarge) false refl q)
seeks_fault dir r0 r r' l l' l'' (faults.Damage d) m q = stops_after dir (coming r0) (coming r) r0.feed r.feed l l' l'' false m (stops_here dir r r.feed l' l'' (Err (faults.Damage d)) false refl q)
