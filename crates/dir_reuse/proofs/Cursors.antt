-- What a cursor comes to.
use Rattle.std.proofs.Common.{◌≡◌, ℕ, Bool, true, false, not, List, [], ◌∷◌, length, Option, Some, None, Ok, Err, refl, sym, ap, ◌∙◌, subst, Less}
use Rattle.std.specs.Prelude.{◌&&◌, ◌||◌, ◌==◌, nat_le, if◌then◌else◌}
use Rattle.std.specs.declared.alloc.AllocError.{AllocError}
use Rattle.std.proofs.lemmas.Bool.{and_parts, leb-true, eqb-true}
use Rattle.path_order.specs.NameList.{Listed}
use Rattle.path_order.specs.Order.{path_cmp}
use Rattle.path_order.specs.Stamp.{Moment}
use Rattle.byte_feed.specs.Front.{Window}
use Rattle.byte_feed.specs.Feed.{window, so_far}
use Rattle.mlocate_db.specs.declared.db_reader.Stage.{Stage}
use Rattle.mlocate_db.specs.declared.db_reader.Stage.TheVariants as stages
use Rattle.mlocate_db.specs.Reader.{ReaderState, is_live, is_inside, items_left}
use Rattle.tree_scan.specs.Records.{bears, is_zero}
use Rattle.dir_reuse.specs.declared.cursor.Cursor.{Cursor}
use Rattle.dir_reuse.specs.declared.naming.Names.TheVariants as names
use Rattle.dir_reuse.specs.declared.seeking.Sought.{Sought}
use Rattle.dir_reuse.specs.declared.seeking.Sought.TheVariants as sought
use Rattle.dir_reuse.specs.Usable.{record_of}
use Rattle.dir_reuse.specs.Coming.{Placed, Coming, coming_in, nothing, head_of, coming, coming_at, Skips, StopsKnown}
use Rattle.dir_reuse.specs.Naming.{NamesKnown, own, with_own}
use Rattle.dir_reuse.specs.Answering.{is_open, ahead, is_sound, SkipsKnown, CameKnown, HasHead, CameShows, AnswersOf, AnswersTold}
use Rattle.dir_reuse.proofs.Passing.{skips_then, passes_head}
use Rattle.dir_reuse.proofs.Answering.{answers_broken, answers_end, answers_later, answers_other, answers_yes, answers_no, answers_lost, answers_zero}

inside_is : (s : Stage) → is_inside s ≡ true → s ≡ stages.Inside
inside_is stages.Inside e = refl
inside_is stages.Fresh e = absurd cc
inside_is stages.Between e = absurd cc
inside_is stages.Done e = absurd cc

implied : (a b : Bool) → (not a || b) ≡ true → a ≡ true → b ≡ true
implied true b h e = h
implied false b h e = absurd cc

-- a sound cursor has the head that it is marked to have
pub has_head : (c : Cursor) → is_sound c ≡ true → c.at_head ≡ true → HasHead c
has_head c s e =
    let p = and_parts (nat_le (length c.reader.feed.held) 4096 && (not (is_live c.reader.stage) || c.reader.feed.offset == c.reader.place)) _ (and_parts _ (c.unbroken || not (is_open c)) s).0 in
    let q = and_parts (nat_le (length c.reader.feed.held) 4096) _ p.0 in
    let h = and_parts c.matched _ (implied c.at_head _ p.1 e) in
    let k = and_parts (is_inside c.reader.stage) _ h.1 in
    let inside = inside_is c.reader.stage k.0 in
    record {
      head = e;
      matched = h.0;
      inside = inside;
      whole = eqb-true _ _ k.1;
      near = eqb-true _ _ (implied (is_live c.reader.stage) _ q.1 (ap is_live inside));
      held = leb-true _ _ q.0;
    }

pub opened : (c : Cursor) → HasHead c → is_open c ≡ true
opened c h = (λ i. h.matched i && is_live (h.inside i))

pub ahead_head : (c : Cursor) (w : Window) → HasHead c → ahead c w ≡ coming_at c.reader w
ahead_head c w h =
    ap (λ (b : Bool). if b then (if c.at_head then coming_at c.reader w else coming c.reader w) else nothing) (opened c h)
    ∙ ap (λ (b : Bool). if b then coming_at c.reader w else coming c.reader w) h.head

pub ahead_closed : (c : Cursor) (w : Window) → is_open c ≡ false → ahead c w ≡ nothing
ahead_closed c w e = ap (λ (b : Bool). if b then (if c.at_head then coming_at c.reader w else coming c.reader w) else nothing) e

abbrev pub let_go : Cursor → Cursor
let_go c = record { reader = c.reader; matched = c.matched; at_head = false; unbroken = c.unbroken }

pub ahead_go : (c : Cursor) (w : Window) → HasHead c → ahead (let_go c) w ≡ coming c.reader w
ahead_go c w h = ap (λ (b : Bool). if b then coming c.reader w else nothing) (opened c h)

lets_go : (dir : List ℕ) (c : Cursor) (w : Window) → HasHead c → path_cmp c.reader.path dir ≡ Less → Skips dir (ahead c w) (ahead (let_go c) w)
lets_go dir c w h less =
    subst (λ (x : Coming). Skips dir x (ahead (let_go c) w)) (sym (ahead_head c w h)) (subst (Skips dir (coming_at c.reader w)) (sym (ahead_go c w h)) (passes_head dir c.reader w (ap is_live h.inside) less))

skips_on : (dir : List ℕ) (c c' : Cursor) (l l' : Option (List ℕ)) → HasHead c → path_cmp c.reader.path dir ≡ Less → SkipsKnown dir (let_go c) l c' l' → SkipsKnown dir c l c' l'
skips_on dir c c' None l' h less m = tt
skips_on dir c c' (Some a) None h less m = absurd m
skips_on dir c c' (Some a) (Some b) h less m = skips_then dir _ _ _ (lets_go dir c (window c.reader.feed a) h less) m

stops_on : (dir : List ℕ) (c : Cursor) (l l' : Option (List ℕ)) → HasHead c → path_cmp c.reader.path dir ≡ Less → StopsKnown true dir (ahead (let_go c)) c.reader.feed l l' → StopsKnown true dir (ahead c) c.reader.feed l l'
stops_on dir c None l' h less m = tt
stops_on dir c (Some a) None h less m = absurd m
stops_on dir c (Some a) (Some b) h less m = record { goes_on = m.goes_on; fewer = m.fewer; came = skips_then dir _ _ _ (lets_go dir c (so_far c.reader.feed a (length b)) h less) m.came }

-- the head in hand comes before the directory
pub came_on : (dir : List ℕ) (s : Sought) (c c' : Cursor) (l l' : Option (List ℕ)) → HasHead c → path_cmp c.reader.path dir ≡ Less → CameKnown dir s (let_go c) l c' l' → CameKnown dir s c l c' l'
came_on dir sought.Here c c' l l' h less m = skips_on dir c c' l l' h less m
came_on dir sought.Later c c' l l' h less m = skips_on dir c c' l l' h less m
came_on dir sought.End c c' l l' h less m = skips_on dir c c' l l' h less m
came_on dir sought.Fault c c' l l' h less m = stops_on dir c l l' h less m

-- ---- the answers

pub told_zero : (dir : List ℕ) (time : Moment) (device : ℕ) (c : Cursor) (l : Option (List ℕ)) → is_zero time ≡ true → AnswersTold dir time device c l c l (Ok false) []
told_zero dir time device c None e = tt
told_zero dir time device c (Some a) e = answers_zero dir time device (ahead c (window c.reader.feed a)) c.unbroken e

pub told_later : (dir : List ℕ) (time : Moment) (device : ℕ) (c c' : Cursor) (l l' : Option (List ℕ)) → SkipsKnown dir c l c' l' → CameShows dir sought.Later c' → AnswersTold dir time device c l c' l' (Ok false) []
told_later dir time device c c' None l' m h = tt
told_later dir time device c c' (Some a) None m h = absurd m
told_later dir time device c c' (Some a) (Some b) m h =
    let same = ahead_head c' (window c'.reader.feed b) h.0 in
    subst (λ (x : Coming). AnswersOf dir time device (ahead c (window c.reader.feed a)) x c'.unbroken (Ok false) []) (sym same)
    (answers_later dir time device (ahead c (window c.reader.feed a)) c'.reader (window c'.reader.feed b) c'.unbroken (subst (Skips dir (ahead c (window c.reader.feed a))) same m) h.1)

pub told_other : (dir : List ℕ) (time : Moment) (device : ℕ) (c c' : Cursor) (l l' : Option (List ℕ)) → SkipsKnown dir c l c' l' → CameShows dir sought.Here c' → ((names : Listed) → bears (record_of c'.reader.version (head_of c'.reader) names) time device ≡ false)
    → AnswersTold dir time device c l c' l' (Ok false) []
told_other dir time device c c' None l' m h other = tt
told_other dir time device c c' (Some a) None m h other = absurd m
told_other dir time device c c' (Some a) (Some b) m h other =
    let same = ahead_head c' (window c'.reader.feed b) h.0 in
    subst (λ (x : Coming). AnswersOf dir time device (ahead c (window c.reader.feed a)) x c'.unbroken (Ok false) []) (sym same)
    (answers_other dir time device (ahead c (window c.reader.feed a)) c'.reader (window c'.reader.feed b) c'.unbroken (subst (Skips dir (ahead c (window c.reader.feed a))) same m) h.1 other)

pub told_end : (dir : List ℕ) (time : Moment) (device : ℕ) (c c' : Cursor) (l l' : Option (List ℕ)) → SkipsKnown dir c l c' l' → is_open c' ≡ false → AnswersTold dir time device c l c' l' (Ok false) []
told_end dir time device c c' None l' m h = tt
told_end dir time device c c' (Some a) None m h = absurd m
told_end dir time device c c' (Some a) (Some b) m h =
    let same = ahead_closed c' (window c'.reader.feed b) h in
    subst (λ (x : Coming). AnswersOf dir time device (ahead c (window c.reader.feed a)) x c'.unbroken (Ok false) []) (sym same)
    (answers_end dir time device (ahead c (window c.reader.feed a)) c'.unbroken (subst (Skips dir (ahead c (window c.reader.feed a))) same m))

pub told_broken : (dir : List ℕ) (time : Moment) (device : ℕ) (t : Window → Coming) (c c' : Cursor) (l l' : Option (List ℕ)) → StopsKnown true dir t c.reader.feed l l' → is_open c' ≡ false → c'.unbroken ≡ false → AnswersTold dir time device c l c' l' (Ok false) []
told_broken dir time device t c c' None l' m h u = tt
told_broken dir time device t c c' (Some a) None m h u = absurd m
told_broken dir time device t c c' (Some a) (Some b) m h u =
    subst (λ (x : Coming). AnswersOf dir time device (ahead c (window c.reader.feed a)) x c'.unbroken (Ok false) []) (sym (ahead_closed c' (window c'.reader.feed b) h))
    (subst (λ (y : Bool). AnswersOf dir time device (ahead c (window c.reader.feed a)) nothing y (Ok false) []) (sym u) (answers_broken dir time device (ahead c (window c.reader.feed a))))

-- ---- the names were read

apart_by : (r : ReaderState) (w : Window) (b : Bool) → is_live r.stage ≡ b → (if b then coming r w else nothing) ≡ coming r w
apart_by r w true e = refl
apart_by r w false e = sym (ap (λ (x : Bool). if x then coming_in r.version r.place (items_left r w).items else nothing) e)

pub ahead_apart : (c : Cursor) (w : Window) → c.matched ≡ true → c.at_head ≡ false → ahead c w ≡ coming c.reader w
ahead_apart c w m h =
    ap (λ (b : Bool). if b && is_live c.reader.stage then (if c.at_head then coming_at c.reader w else coming c.reader w) else nothing) m
    ∙ ap (λ (b : Bool). if is_live c.reader.stage then (if b then coming_at c.reader w else coming c.reader w) else nothing) h
    ∙ apart_by c.reader w (is_live c.reader.stage) refl

-- the directory was passed, with these records
pub taken : (dir : List ℕ) (c c1 c2 : Cursor) (a b d : List ℕ) (mine : List Placed) → Skips dir (ahead c (window c.reader.feed a)) (ahead c1 (window c1.reader.feed b)) → CameShows dir sought.Here c1
    → coming_at c1.reader (window c1.reader.feed b) ≡ with_own mine c1.reader.path (coming c2.reader (window c2.reader.feed d)) → Skips dir (ahead c (window c.reader.feed a)) (with_own mine dir (coming c2.reader (window c2.reader.feed d)))
taken dir c c1 c2 a b d mine m h e =
    subst (Skips dir (ahead c (window c.reader.feed a)))
    (ahead_head c1 (window c1.reader.feed b) h.0 ∙ e ∙ ap (λ (p : List ℕ). with_own mine p (coming c2.reader (window c2.reader.feed d))) h.1) m

pub told_yes : (dir : List ℕ) (time : Moment) (device : ℕ) (c c1 c2 : Cursor) (l l1 l2 : Option (List ℕ)) (into : Listed) → SkipsKnown dir c l c1 l1 → CameShows dir sought.Here c1 → c2.matched ≡ true → c2.at_head ≡ false
    → ((ns : Listed) → bears (record_of c1.reader.version (head_of c1.reader) ns) time device ≡ true) → NamesKnown (Ok names.Whole) c1.reader l1 c2.reader l2 into → AnswersTold dir time device c l c2 l2 (Ok true) into
told_yes dir time device c c1 c2 None l1 l2 into m h matched apart bearing n = tt
told_yes dir time device c c1 c2 (Some a) None l2 into m h matched apart bearing n = absurd m
told_yes dir time device c c1 c2 (Some a) (Some b) None into m h matched apart bearing n = absurd n
told_yes dir time device c c1 c2 (Some a) (Some b) (Some d) into m h matched apart bearing n =
    subst (λ (x : Coming). AnswersOf dir time device (ahead c (window c.reader.feed a)) x c2.unbroken (Ok true) into) (sym (ahead_apart c2 (window c2.reader.feed d) matched apart))
    (answers_yes dir time device (ahead c (window c.reader.feed a)) (coming c2.reader (window c2.reader.feed d)) c1.reader into c2.reader.place c2.unbroken (taken dir c c1 c2 a b d ((record_of c1.reader.version (head_of c1.reader) into, c2.reader.place) ∷ []) m h n) h.1 (bearing into))

pub told_no : (dir : List ℕ) (time : Moment) (device : ℕ) (c c1 c2 : Cursor) (l l1 l2 : Option (List ℕ)) (into : Listed) → SkipsKnown dir c l c1 l1 → CameShows dir sought.Here c1 → c2.matched ≡ true → c2.at_head ≡ false
    → NamesKnown (Ok names.Unusable) c1.reader l1 c2.reader l2 into → AnswersTold dir time device c l c2 l2 (Ok false) []
told_no dir time device c c1 c2 None l1 l2 into m h matched apart n = tt
told_no dir time device c c1 c2 (Some a) None l2 into m h matched apart n = absurd m
told_no dir time device c c1 c2 (Some a) (Some b) None into m h matched apart n = absurd n
told_no dir time device c c1 c2 (Some a) (Some b) (Some d) into m h matched apart n =
    subst (λ (x : Coming). AnswersOf dir time device (ahead c (window c.reader.feed a)) x c2.unbroken (Ok false) []) (sym (ahead_apart c2 (window c2.reader.feed d) matched apart))
    (answers_no dir time device (ahead c (window c.reader.feed a)) c2.reader (window c2.reader.feed d) c2.unbroken (taken dir c c1 c2 a b d [] m h n))

pub told_lost : (dir : List ℕ) (time : Moment) (device : ℕ) (c c1 c2 : Cursor) (l l1 l2 : Option (List ℕ)) (into : Listed) (e : AllocError) → SkipsKnown dir c l c1 l1 → CameShows dir sought.Here c1 → c2.matched ≡ true → c2.at_head ≡ false
    → NamesKnown (Err e) c1.reader l1 c2.reader l2 into → AnswersTold dir time device c l c2 l2 (Err e) into
told_lost dir time device c c1 c2 None l1 l2 into e m h matched apart n = tt
told_lost dir time device c c1 c2 (Some a) None l2 into e m h matched apart n = absurd m
told_lost dir time device c c1 c2 (Some a) (Some b) None into e m h matched apart n = absurd n
told_lost dir time device c c1 c2 (Some a) (Some b) (Some d) into e m h matched apart n =
    subst (λ (x : Coming). AnswersOf dir time device (ahead c (window c.reader.feed a)) x c2.unbroken (Err e) into) (sym (ahead_apart c2 (window c2.reader.feed d) matched apart))
    (answers_lost dir time device (ahead c (window c.reader.feed a)) (coming c2.reader (window c2.reader.feed d)) c1.reader (window c1.reader.feed b) c2.unbroken e into (taken dir c c1 c2 a b d (own c1.reader (window c1.reader.feed b)) m h n) h.1)

-- the source failed in the names
pub told_short : (dir : List ℕ) (time : Moment) (device : ℕ) (c c1 c2 : Cursor) (l l1 l2 : Option (List ℕ)) → SkipsKnown dir c l c1 l1 → StopsKnown true dir (coming_at c1.reader) c1.reader.feed l1 l2 → is_open c2 ≡ false → c2.unbroken ≡ false
    → AnswersTold dir time device c l c2 l2 (Ok false) []
told_short dir time device c c1 c2 None l1 l2 m n h u = tt
told_short dir time device c c1 c2 (Some a) None l2 m n h u = absurd m
told_short dir time device c c1 c2 (Some a) (Some b) None m n h u = absurd n
told_short dir time device c c1 c2 (Some a) (Some b) (Some d) m n h u =
    subst (λ (x : Coming). AnswersOf dir time device (ahead c (window c.reader.feed a)) x c2.unbroken (Ok false) []) (sym (ahead_closed c2 (window c2.reader.feed d) h))
    (subst (λ (y : Bool). AnswersOf dir time device (ahead c (window c.reader.feed a)) nothing y (Ok false) []) (sym u) (answers_broken dir time device (ahead c (window c.reader.feed a))))
