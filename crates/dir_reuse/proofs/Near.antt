-- How far a question reads.
use Rattle.std.proofs.Common.{◌≡◌, ℕ, ◌+◌, ◌≤◌, Bool, true, false, not, List, [], ◌∷◌, ◌++◌, length, map, filter, Option, Some, None, Ok, Err, refl, sym, ap, subst, arith}
use Rattle.std.specs.Prelude.{⊤, ◌&&◌, ◌||◌, ◌==◌, nat_le, if◌then◌else◌, Result, IsErr}
use Rattle.std.specs.declared.alloc.AllocError.{AllocError}
use Rattle.std.proofs.lemmas.Bool.{and_parts, leb-true, eqb-true}
use Rattle.path_order.specs.NameList.{Listed}
use Rattle.byte_feed.specs.Front.{Window}
use Rattle.byte_feed.specs.Feed.{window, reach}
use Rattle.byte_feed.specs.Paths.{Rest}
use Rattle.byte_feed.specs.Calls.{MovedKnown}
use Rattle.mlocate_db.specs.Items.{Item, HeadItem, EntryItem, EndItem, HeaderItem, mlocate}
use Rattle.mlocate_db.specs.Reader.{ReaderState, is_live, items_left}
use Rattle.tree_scan.specs.Records.{Record}
use Rattle.dir_reuse.specs.declared.cursor.Cursor.{Cursor}
use Rattle.dir_reuse.specs.declared.naming.Names.{Names}
use Rattle.dir_reuse.specs.declared.naming.Names.TheVariants as names
use Rattle.dir_reuse.specs.declared.seeking.Sought.TheVariants as sought
use Rattle.dir_reuse.specs.Usable.{record_of, usable_record}
use Rattle.dir_reuse.specs.Coming.{size, size_behind, Placed, placed_at, placed_in, coming_in, nothing, head_of, coming, coming_at, not_before, Skips}
use Rattle.dir_reuse.specs.Naming.{entries_of, own, with_own, NamesKnown, Stands, NotPastEnd, NamesNear}
use Rattle.dir_reuse.specs.Answering.{is_open, ahead, is_sound, SkipsKnown, CameShows, NearFirst, ReadsNear}
use Rattle.dir_reuse.proofs.Names.{after_items, sizes, sizes_fit, places_move}
use Rattle.dir_reuse.proofs.Cursors.{taken}

-- ---- records that end behind a place

-- each of these ends no earlier than here
Behind : ℕ → List Placed → Type 0
Behind p [] = ⊤
Behind p (b ∷ bs) = (p ≤ b.1) × Behind p bs

behind_less : (p q : ℕ) (bs : List Placed) → p ≤ q → Behind q bs → Behind p bs
unfolding Behind
behind_less p q [] le h = tt
behind_less p q (b ∷ bs) le h = (omega (arith, le, h.0), behind_less p q bs le h.1)

behind_both : (p : ℕ) (xs ys : List Placed) → Behind p xs → Behind p ys → Behind p (xs ++ ys)
unfolding Behind
behind_both p [] ys h k = k
behind_both p (x ∷ xs) ys h k = (h.0, behind_both p xs ys h.1 k)

behind_kept : (p : ℕ) (t : Placed → Bool) (bs : List Placed) → Behind p bs → Behind p (filter t bs)
unfolding Behind
behind_kept p t [] h = tt
behind_kept p t (b ∷ bs) h = by (t b) (behind_kept p t bs h.1)
  where
    by : (x : Bool) → Behind p (filter t bs) → Behind p (if x then b ∷ filter t bs else filter t bs)
    by true k = (h.0, k)
    by false k = k

behind_one : (p e : ℕ) (rs : List Record) → p ≤ e → Behind p (map (λ (r : Record). let q : Placed = (r, e) in q) rs)
unfolding Behind
behind_one p e [] le = tt
behind_one p e (r ∷ rs) le = (le, behind_one p e rs le)

behind_items : (version p : ℕ) (items : List Item) → Behind p (placed_in version p items)
unfolding Behind
behind_items version p [] = tt
behind_items version p (HeadItem head ∷ items) =
    behind_both p (placed_at version (p + size (HeadItem head)) head items) (placed_in version (p + size (HeadItem head)) items)
    (behind_one p (p + size (HeadItem head) + size_behind items) (usable_record version head items) (omega arith))
    (behind_less p (p + size (HeadItem head)) _ (omega arith) (behind_items version (p + size (HeadItem head)) items))
behind_items version p (HeaderItem header ∷ items) = behind_less p (p + size (HeaderItem header)) _ (omega arith) (behind_items version (p + size (HeaderItem header)) items)
behind_items version p (EntryItem kind name ∷ items) = behind_less p (p + size (EntryItem kind name)) _ (omega arith) (behind_items version (p + size (EntryItem kind name)) items)
behind_items version p (EndItem ∷ items) = behind_less p (p + size EndItem) _ (omega arith) (behind_items version (p + size EndItem) items)

behind_coming : (r : ReaderState) (w : Window) → Behind r.place (coming r w).blocks
unfolding Behind
behind_coming r w = by (is_live r.stage)
  where
    by : (b : Bool) → Behind r.place (if b then coming_in r.version r.place (items_left r w).items else nothing).blocks
    by true = behind_items r.version r.place (items_left r w).items
    by false = tt

behind_own : (r : ReaderState) (w : Window) (p : ℕ) → p ≤ r.place + size_behind (items_left r w).items → Behind p (own r w)
behind_own r w p le = behind_one p (r.place + size_behind (items_left r w).items) (usable_record r.version (head_of r) (items_left r w).items) le

behind_head : (r : ReaderState) (w : Window) → Behind r.place (coming_at r w).blocks
behind_head r w = behind_both r.place (own r w) (placed_in r.version r.place (items_left r w).items) (behind_own r w r.place (omega arith)) (behind_items r.version r.place (items_left r w).items)

near_first : (at p : ℕ) (bs : List Placed) → at ≤ p + 4096 → Behind p bs → NearFirst at bs
unfolding Behind
near_first at p [] le h = tt
near_first at p (b ∷ bs) le h = omega (arith, le, h.0)

near_kept : (dir : List ℕ) (at p : ℕ) (bs : List Placed) → at ≤ p + 4096 → Behind p bs → NearFirst at (filter (not_before dir) bs)
near_kept dir at p bs le h = near_first at p (filter (not_before dir) bs) le (behind_kept p (not_before dir) bs h)

-- ---- what a cursor still gives

near_ahead : (dir : List ℕ) (c : Cursor) (w : Window) → (is_live c.reader.stage ≡ true → reach c.reader.feed ≤ c.reader.place + 4096) → NearFirst (reach c.reader.feed) (filter (not_before dir) (ahead c w).blocks)
near_ahead dir c w near = by c.matched (is_live c.reader.stage) refl c.at_head
  where
    by : (m live : Bool) → is_live c.reader.stage ≡ live → (h : Bool) → NearFirst (reach c.reader.feed) (filter (not_before dir) (if m && live then (if h then coming_at c.reader w else coming c.reader w) else nothing).blocks)
    by true true is true = near_kept dir _ c.reader.place (coming_at c.reader w).blocks (near is) (behind_head c.reader w)
    by true true is false = near_kept dir _ c.reader.place (coming c.reader w).blocks (near is) (behind_coming c.reader w)
    by true false is h = tt
    by false live is h = tt

-- a sound cursor reads ahead at most 4,096 bytes
sound_near : (c : Cursor) → is_sound c ≡ true → is_live c.reader.stage ≡ true → reach c.reader.feed ≤ c.reader.place + 4096
sound_near c s live =
    let p = and_parts (nat_le (length c.reader.feed.held) 4096 && (not (is_live c.reader.stage) || c.reader.feed.offset == c.reader.place)) _ (and_parts _ (c.unbroken || not (is_open c)) s).0 in
    let q = and_parts (nat_le (length c.reader.feed.held) 4096) _ p.0 in
    omega (arith, leb-true _ _ q.0, eqb-true _ _ (implied (is_live c.reader.stage) _ q.1 live))
  where
    implied : (a b : Bool) → (not a || b) ≡ true → a ≡ true → b ≡ true
    implied true b h e = h
    implied false b h e = absurd cc

-- nothing was read
pub near_still : (dir : List ℕ) (c : Cursor) (l : Option (List ℕ)) → is_sound c ≡ true → ReadsNear dir c l c
near_still dir c None s = tt
near_still dir c (Some a) s = λ u. near_ahead dir c (window c.reader.feed a) (sound_near c s)

-- the reader stands at a head, or nothing more comes
pub near_skips : (dir : List ℕ) (c c' : Cursor) (l l' : Option (List ℕ)) → is_sound c' ≡ true → SkipsKnown dir c l c' l' → ReadsNear dir c l c'
near_skips dir c c' None l' s m = tt
near_skips dir c c' (Some a) None s m = absurd m
near_skips dir c c' (Some a) (Some b) s m = λ u. subst (NearFirst (reach c'.reader.feed)) (sym m.same) (near_ahead dir c' (window c'.reader.feed b) (sound_near c' s))

stands_near : (r : ReaderState) → Stands r → is_live r.stage ≡ true → reach r.feed ≤ r.place + 4096
stands_near r s live = omega (arith, s.near live, s.held)

-- ---- the names were read

near_taken : (dir : List ℕ) (c c1 c2 : Cursor) (a b d : List ℕ) (mine : List Placed) → Skips dir (ahead c (window c.reader.feed a)) (ahead c1 (window c1.reader.feed b)) → CameShows dir sought.Here c1
    → coming_at c1.reader (window c1.reader.feed b) ≡ with_own mine c1.reader.path (coming c2.reader (window c2.reader.feed d)) → reach c2.reader.feed ≤ c2.reader.place + 4096 → Behind c2.reader.place mine
    → NearFirst (reach c2.reader.feed) (filter (not_before dir) (ahead c (window c.reader.feed a)).blocks)
near_taken dir c c1 c2 a b d mine m h e near behind =
    subst (NearFirst (reach c2.reader.feed)) (sym (taken dir c c1 c2 a b d mine m h e).same)
    (near_kept dir _ c2.reader.place (mine ++ (coming c2.reader (window c2.reader.feed d)).blocks) near
    (behind_both c2.reader.place mine (coming c2.reader (window c2.reader.feed d)).blocks behind (behind_coming c2.reader (window c2.reader.feed d))))

pub near_whole : (dir : List ℕ) (c c1 c2 : Cursor) (l l1 l2 : Option (List ℕ)) (into : Listed) → SkipsKnown dir c l c1 l1 → CameShows dir sought.Here c1 → Stands c2.reader → is_live c2.reader.stage ≡ true
    → NamesKnown (Ok names.Whole) c1.reader l1 c2.reader l2 into → ReadsNear dir c l c2
unfolding Behind
near_whole dir c c1 c2 None l1 l2 into m h s live n = tt
near_whole dir c c1 c2 (Some a) None l2 into m h s live n = absurd m
near_whole dir c c1 c2 (Some a) (Some b) None into m h s live n = absurd n
near_whole dir c c1 c2 (Some a) (Some b) (Some d) into m h s live n = λ u. near_taken dir c c1 c2 a b d ((record_of c1.reader.version (head_of c1.reader) into, c2.reader.place) ∷ []) m h n (stands_near c2.reader s live) (omega arith, tt)

pub near_unusable : (dir : List ℕ) (c c1 c2 : Cursor) (l l1 l2 : Option (List ℕ)) (into : Listed) → SkipsKnown dir c l c1 l1 → CameShows dir sought.Here c1 → Stands c2.reader → NamesKnown (Ok names.Unusable) c1.reader l1 c2.reader l2 into → ReadsNear dir c l c2
unfolding Behind
near_unusable dir c c1 c2 None l1 l2 into m h s n = tt
near_unusable dir c c1 c2 (Some a) None l2 into m h s n = absurd m
near_unusable dir c c1 c2 (Some a) (Some b) None into m h s n = absurd n
near_unusable dir c c1 c2 (Some a) (Some b) (Some d) into m h s n = λ u. subst (NearFirst (reach c2.reader.feed)) (sym (taken dir c c1 c2 a b d [] m h n).same) (by (is_live c2.reader.stage) refl)
  where
    by : (live : Bool) → is_live c2.reader.stage ≡ live
        → NearFirst (reach c2.reader.feed) (filter (not_before dir) (if live then coming_in c2.reader.version c2.reader.place (items_left c2.reader (window c2.reader.feed d)).items else nothing).blocks)
    by true is = near_kept dir _ c2.reader.place _ (stands_near c2.reader s is) (behind_items c2.reader.version c2.reader.place (items_left c2.reader (window c2.reader.feed d)).items)
    by false is = tt

pub near_lost : (dir : List ℕ) (c c1 c2 : Cursor) (l l1 l2 : Option (List ℕ)) (into : Listed) (e : AllocError) → SkipsKnown dir c l c1 l1 → CameShows dir sought.Here c1 → Stands c2.reader → NamesNear (Err e) c1.reader l1 c2.reader
    → NamesKnown (Err e) c1.reader l1 c2.reader l2 into → ReadsNear dir c l c2
near_lost dir c c1 c2 None l1 l2 into e m h s k n = tt
near_lost dir c c1 c2 (Some a) None l2 into e m h s k n = absurd m
near_lost dir c c1 c2 (Some a) (Some b) None into e m h s k n = absurd n
near_lost dir c c1 c2 (Some a) (Some b) (Some d) into e m h s k n =
    λ u. near_taken dir c c1 c2 a b d (own c1.reader (window c1.reader.feed b)) m h n (stands_near c2.reader s k.0) (behind_own c1.reader (window c1.reader.feed b) c2.reader.place k.1)

-- ---- where the reader stands in a directory

pub not_past_end : (r r' : ReaderState) (xs : Listed) (l l' : Option (List ℕ)) → MovedKnown (items_left r) (items_left r') (after_items (entries_of xs)) r.feed l r'.feed l' → NotPastEnd r l r'
not_past_end r r' xs None l' m = tt
not_past_end r r' xs (Some a) None m = absurd m
not_past_end r r' xs (Some a) (Some b) m =
    let same : (items_left r (window r.feed a)).items ≡ entries_of xs ++ (items_left r' (window r'.feed b)).items = ap (λ (x : Rest mlocate). x.items) m.whole in
    let at : r.place + sizes (entries_of xs) ≡ r'.place = places_move r r' (window r.feed a) (window r'.feed b) (entries_of xs) m.whole in
    rw same (omega (arith, at, sizes_fit xs (items_left r' (window r'.feed b)).items))

pub near_err : (r r' : ReaderState) (l : Option (List ℕ)) (result : Result Names AllocError) → IsErr result → is_live r'.stage ≡ true → NotPastEnd r l r' → NamesNear result r l r'
near_err r r' l (Ok x) h live n = absurd cc
near_err r r' l (Err e) h live n = (live, n)
