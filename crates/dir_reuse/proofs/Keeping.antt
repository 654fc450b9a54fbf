-- What is kept of an old database that is read head by head.
use Rattle.std.proofs.Common.{◌≡◌, ℕ, Bool, true, false, cond, not, List, [], ◌∷◌, ◌++◌, map, filter, Option, Some, None, Ok, Contains, IfSome, MatchBool, refl, sym, ap, ◌∙◌, subst, arith, append_assoc, append-nil, is_lt}
use Rattle.std.specs.Prelude.{◌||◌, option_to_list, ⊤}
use Rattle.std.proofs.lemmas.Bool.{and_parts, cases_lt}
use Rattle.std.specs.Option.{option_map}
use Rattle.std.specs.Prelude.{min}
use Rattle.std.proofs.Common.{◌+◌, ◌≤◌, inl, inr}
use Rattle.loc_outside.specs.Causes.{Rose, last_count}
use Rattle.dir_reuse.specs.Faults.{rose_first, rose_last}
use Rattle.std.proofs.lemmas.List.{map-append}
use Rattle.std.proofs.lemmas.List.Elements.{Contains-append_left}
use Rattle.path_order.specs.NameList.{Listed}
use Rattle.path_order.specs.Order.{path_cmp}
use Rattle.byte_feed.specs.Front.{Window}
use Rattle.byte_feed.specs.Feed.{window}
use Rattle.tree_scan.specs.Records.{Record}
use Rattle.dir_reuse.specs.declared.cursor.Cursor.{Cursor}
use Rattle.dir_reuse.specs.declared.naming.Names.TheVariants as names
use Rattle.dir_reuse.specs.Usable.{is_ordered, record_of, records}
use Rattle.dir_reuse.specs.Coming.{Placed, Coming, coming, head_of, not_before, records_to_come, Skips}
use Rattle.dir_reuse.specs.Naming.{NamesKnown, TakenKnown}
use Rattle.dir_reuse.specs.Answering.{HasHead, SkipsKnown, ahead, is_open, is_sound}
use Rattle.dir_reuse.specs.Stream.{OpensKnown, is_known_ordered, known, known_by}
use Rattle.dir_reuse.specs.Keeping.{AllKept, AreSome, GivesKnown, SomeKept, StaysKnown}
use Rattle.dir_reuse.proofs.Cursors.{ahead_apart, ahead_closed, ahead_head, opened}

-- ---- reading on to the next head

-- no path comes before the empty one
none_before : (path : List ℕ) → not (is_lt (path_cmp path [])) ≡ true
none_before [] = refl
none_before (x ∷ path) = refl

all_stay : (blocks : List Placed) → filter (not_before []) blocks ≡ blocks
all_stay [] = refl
all_stay (b ∷ blocks) =
    ap (λ (t : Bool). cond t (b ∷ filter (not_before []) blocks) (filter (not_before []) blocks)) (none_before b.0.path) ∙ ap (λ (l : List Placed). b ∷ l) (all_stay blocks)

same_records : (a b : Coming) → Skips [] a b → records_to_come b ≡ records_to_come a
same_records a b s = ap (map (λ (p : Placed). p.0)) (sym (all_stay b.blocks) ∙ sym s.same ∙ all_stay a.blocks)

known_told : (c : Cursor) (y : List ℕ) → known c (Some y) ≡ Some (records_to_come (ahead c (window c.reader.feed y)))
known_told c y = by (is_open c) refl
  where
    by : (b : Bool) → is_open c ≡ b → known_by (is_open c) c (Some y) ≡ Some (records_to_come (ahead c (window c.reader.feed y)))
    by true e = ap (λ (b : Bool). known_by b c (Some y)) e
    by false e = ap (λ (b : Bool). known_by b c (Some y)) e ∙ ap (λ (x : Coming). Some (records_to_come x)) (sym (ahead_closed c (window c.reader.feed y) e))

known_closed : (c : Cursor) (l : Option (List ℕ)) → is_open c ≡ false → known c l ≡ Some []
known_closed c l e = ap (λ (b : Bool). known_by b c l) e

stays_by : (b : Bool) (c c' : Cursor) (l l' : Option (List ℕ)) → is_open c ≡ b → (is_open c ≡ false → is_open c' ≡ false) → SkipsKnown [] c l c' l' → IfSome (known_by b c l) (λ rs. known c' l' ≡ Some rs)
stays_by true c c' None l' e shut m = tt
stays_by true c c' (Some a) None e shut m = absurd m
stays_by true c c' (Some a) (Some d) e shut m = known_told c' d ∙ ap (λ (rs : List Record). Some rs) (same_records (ahead c (window c.reader.feed a)) (ahead c' (window c'.reader.feed d)) m)
stays_by false c c' l l' e shut m = known_closed c' l' (shut e)

unless_broken : (b : Bool) (P : Type 0) → P → MatchBool b P ⊤
unless_broken true P p = p
unless_broken false P p = tt

pub stays : (c c' : Cursor) (l l' : Option (List ℕ)) → (is_open c ≡ false → is_open c' ≡ false) → SkipsKnown [] c l c' l' → StaysKnown c l c' l'
stays c c' l l' shut m = unless_broken c'.unbroken (IfSome (known c l) (λ rs. known c' l' ≡ Some rs)) (stays_by (is_open c) c c' l l' refl shut m)

pub stays_broken : (c c' : Cursor) (l l' : Option (List ℕ)) → c'.unbroken ≡ false → StaysKnown c l c' l'
stays_broken c c' l l' u = subst (λ (b : Bool). MatchBool b (IfSome (known c l) (λ rs. known c' l' ≡ Some rs)) ⊤) (sym u) tt

-- ---- the directory of a head in hand

implied_by : (a b : Bool) → (a || not b) ≡ true → b ≡ true → a ≡ true
implied_by true b h e = refl
implied_by false true h e = absurd cc
implied_by false false h e = absurd cc

-- a sound cursor with a head in hand has met no failed read
pub still_unbroken : (c : Cursor) → is_sound c ≡ true → HasHead c → c.unbroken ≡ true
still_unbroken c s h = implied_by c.unbroken (is_open c) (and_parts _ (c.unbroken || not (is_open c)) s).1 (opened c h)

abbrev Gives : List Record → Bool → Cursor → Option (List ℕ) → Cursor → Option (List ℕ) → Type 0
Gives front b c l c' l' = IfSome (known_by b c l) (λ rs. option_map (λ more. front ++ more) (known c' l') ≡ Some rs)

gives_by : (front : List Record) (mine : Window → List Placed) (c c' : Cursor) (l l' : Option (List ℕ)) → HasHead c → c'.matched ≡ true → c'.at_head ≡ false → ((w : Window) → map (λ (p : Placed). p.0) (mine w) ≡ front)
    → TakenKnown mine c.reader l c'.reader l' → Gives front true c l c' l'
gives_by front mine c c' None l' h matched apart are t = tt
gives_by front mine c c' (Some a) None h matched apart are t = absurd t
gives_by front mine c c' (Some a) (Some d) h matched apart are t =
    let w : Window = window c.reader.feed a in
    let w' : Window = window c'.reader.feed d in
    let before : records_to_come (ahead c w) ≡ map (λ (p : Placed). p.0) (mine w ++ (coming c'.reader w').blocks) = ap records_to_come (ahead_head c w h ∙ t) in
    let after : records_to_come (ahead c' w') ≡ map (λ (p : Placed). p.0) (coming c'.reader w').blocks = ap records_to_come (ahead_apart c' w' matched apart) in
    let all : front ++ records_to_come (ahead c' w') ≡ records_to_come (ahead c w) =
    (λ i. sym (are w) i ++ after i) ∙ sym (map-append (λ (p : Placed). p.0) (mine w) (coming c'.reader w').blocks) ∙ sym before in
    ap (option_map (λ (more : List Record). front ++ more)) (known_told c' d) ∙ ap (λ (rs : List Record). Some rs) all

gives_open : (front : List Record) (c c' : Cursor) (l l' : Option (List ℕ)) → HasHead c → Gives front true c l c' l' → Gives front (is_open c) c l c' l'
gives_open front c c' l l' h g = subst (λ (b : Bool). Gives front b c l c' l') (sym (opened c h)) g

either_given : (b : Bool) (given : Option Record) (P : Type 0) → b ≡ true → P → MatchBool b P (given ≡ None)
either_given true given P u p = p
either_given false given P u p = absurd cc

pub gives_record : (c c' : Cursor) (l l' : Option (List ℕ)) (r : Record) (into : Listed) → HasHead c → c'.matched ≡ true → c'.at_head ≡ false → c'.unbroken ≡ true → r ≡ record_of c.reader.version (head_of c.reader) into
    → NamesKnown (Ok names.Whole) c.reader l c'.reader l' into → GivesKnown (Some r) c l c' l'
gives_record c c' l l' r into h matched apart u is n =
    either_given c'.unbroken (Some r) (Gives (r ∷ []) (is_open c) c l c' l') u
    (gives_open (r ∷ []) c c' l l' h (gives_by (r ∷ []) (λ w. (record_of c.reader.version (head_of c.reader) into, c'.reader.place) ∷ []) c c' l l' h matched apart (λ w. ap (λ (x : Record). x ∷ []) (sym is)) n))

pub gives_none : (c c' : Cursor) (l l' : Option (List ℕ)) (into : Listed) → HasHead c → c'.matched ≡ true → c'.at_head ≡ false → c'.unbroken ≡ true → NamesKnown (Ok names.Unusable) c.reader l c'.reader l' into → GivesKnown None c l c' l'
gives_none c c' l l' into h matched apart u n = either_given c'.unbroken None (Gives [] (is_open c) c l c' l') u (gives_open [] c c' l l' h (gives_by [] (λ w. []) c c' l l' h matched apart (λ w. refl) n))

neither_given : (b : Bool) (given : Option Record) (P : Type 0) → b ≡ false → given ≡ None → MatchBool b P (given ≡ None)
neither_given true given P u e = absurd cc
neither_given false given P u e = e

pub gives_broken : (c c' : Cursor) (l l' : Option (List ℕ)) → c'.unbroken ≡ false → GivesKnown None c l c' l'
gives_broken c c' l l' u = neither_given c'.unbroken None (Gives [] (is_open c) c l c' l') u refl

-- ---- what is kept so far

some_none : (all : List Record) → AreSome [] all
some_none all r h = absurd (omega (arith, h.1))

some_front : (kept more all : List Record) → kept ++ more ≡ all → AreSome kept all
some_front kept more all e r h = subst (λ (l : List Record). Contains l r) e (Contains-append_left kept more r h)

-- what an equation on known records says
some_eq : {A : Type 0} (x y : A) → Some x ≡ Some y → x ≡ y
some_eq x y e = cc

abbrev Whole : List Record → List Record → Option (List Record) → Type 0
Whole kept all left = option_map (λ more. kept ++ more) left ≡ Some all

whole_some : (kept all : List Record) (left : Option (List Record)) → Whole kept all left → AreSome kept all
whole_some kept all None w = absurd cc
whole_some kept all (Some more) w = some_front kept more all (some_eq (kept ++ more) all w)

kept_some : (kept all : List Record) (b : Bool) (left : Option (List Record)) → MatchBool b (Whole kept all left) (AreSome kept all) → AreSome kept all
kept_some kept all true left w = whole_some kept all left w
kept_some kept all false left w = w

pub keeps_begin : (root block : List ℕ) (file : Option (List ℕ)) (c : Cursor) (l : Option (List ℕ)) → OpensKnown root block file c l → SomeKept root block file [] c l
keeps_begin root block None c l o = tt
keeps_begin root block (Some file) c l o = by c.unbroken o
  where
    by : (b : Bool) → MatchBool b ((known c l ≡ Some (records root block file)) × (is_known_ordered c l ≡ is_ordered root block file)) (known c l ≡ Some []) → MatchBool b (Whole [] (records root block file) (known c l)) (AreSome [] (records root block file))
    by true o = ap (option_map (λ (more : List Record). [] ++ more)) o.0
    by false o = some_none (records root block file)

whole_stays : (kept all : List Record) (left left' : Option (List Record)) → Whole kept all left → IfSome left (λ rs. left' ≡ Some rs) → Whole kept all left'
whole_stays kept all None left' w s = absurd cc
whole_stays kept all (Some rs) left' w s = ap (option_map (λ (more : List Record). kept ++ more)) s ∙ w

stay_by : (kept all : List Record) (b b' : Bool) (left left' : Option (List Record)) → (b' ≡ true → b ≡ true) → MatchBool b (Whole kept all left) (AreSome kept all) → MatchBool b' (IfSome left (λ rs. left' ≡ Some rs)) ⊤
    → MatchBool b' (Whole kept all left') (AreSome kept all)
stay_by kept all true true left left' u w s = whole_stays kept all left left' w s
stay_by kept all false true left left' u w s = absurd (let z = u refl in cc)
stay_by kept all b false left left' u w s = kept_some kept all b left w

pub keeps_stay : (root block : List ℕ) (file : Option (List ℕ)) (kept : List Record) (c c' : Cursor) (l l' : Option (List ℕ)) → (c'.unbroken ≡ true → c.unbroken ≡ true) → SomeKept root block file kept c l → StaysKnown c l c' l' → SomeKept root block file kept c' l'
keeps_stay root block None kept c c' l l' u k s = tt
keeps_stay root block (Some file) kept c c' l l' u k s = stay_by kept (records root block file) c.unbroken c'.unbroken (known c l) (known c' l') u k s

whole_more : (kept front all : List Record) (left left' : Option (List Record)) → Whole kept all left → IfSome left (λ rs. option_map (λ more. front ++ more) left' ≡ Some rs) → Whole (kept ++ front) all left'
whole_more kept front all None left' w g = absurd cc
whole_more kept front all (Some rs) None w g = absurd cc
whole_more kept front all (Some rs) (Some more) w g =
    ap (λ (l : List Record). Some l) (append_assoc kept front more) ∙ ap (λ (l : List Record). Some (kept ++ l)) (some_eq (front ++ more) rs g) ∙ w

more_by : (kept all : List Record) (given : Option Record) (b b' : Bool) (left left' : Option (List Record)) → (b' ≡ true → b ≡ true) → MatchBool b (Whole kept all left) (AreSome kept all)
    → MatchBool b' (IfSome left (λ rs. option_map (λ more. option_to_list given ++ more) left' ≡ Some rs)) (given ≡ None) → MatchBool b' (Whole (kept ++ option_to_list given) all left') (AreSome (kept ++ option_to_list given) all)
more_by kept all given true true left left' u w g = whole_more kept (option_to_list given) all left left' w g
more_by kept all given false true left left' u w g = absurd (let z = u refl in cc)
more_by kept all given b false left left' u w g =
    subst (λ (l : List Record). AreSome l all) (sym (ap (λ (o : Option Record). kept ++ option_to_list o) g ∙ append-nil kept)) (kept_some kept all b left w)

pub keeps_more : (root block : List ℕ) (file : Option (List ℕ)) (kept : List Record) (given : Option Record) (c c' : Cursor) (l l' : Option (List ℕ)) → (c'.unbroken ≡ true → c.unbroken ≡ true) → SomeKept root block file kept c l → GivesKnown given c l c' l'
    → SomeKept root block file (kept ++ option_to_list given) c' l'
keeps_more root block None kept given c c' l l' u k g = tt
keeps_more root block (Some file) kept given c c' l l' u k g = more_by kept (records root block file) given c.unbroken c'.unbroken (known c l) (known c' l') u k g

pub keeps_same : (root block : List ℕ) (file : Option (List ℕ)) (kept : List Record) (c c' : Cursor) (l l' : Option (List ℕ)) → (c'.unbroken ≡ true → c.unbroken ≡ true) → SomeKept root block file kept c l → GivesKnown None c l c' l' → SomeKept root block file kept c' l'
keeps_same root block file kept c c' l l' u k g = subst (λ (rs : List Record). SomeKept root block file rs c' l') (append-nil kept) (keeps_more root block file kept None c c' l l' u k g)

all_by : (kept all : List Record) (b : Bool) (left : Option (List Record)) → left ≡ Some [] → MatchBool b (Whole kept all left) (AreSome kept all) → MatchBool b (kept ≡ all) (AreSome kept all)
all_by kept all true left e w = sym (append-nil kept) ∙ some_eq (kept ++ []) all (sym (ap (option_map (λ (more : List Record). kept ++ more)) e) ∙ w)
all_by kept all false left e w = w

pub keeps_all : (root block : List ℕ) (file : Option (List ℕ)) (kept : List Record) (c : Cursor) (l : Option (List ℕ)) → is_open c ≡ false → SomeKept root block file kept c l → AllKept root block file kept c.unbroken
keeps_all root block None kept c l e k = tt
keeps_all root block (Some file) kept c l e k = all_by kept (records root block file) c.unbroken (known c l) (known_closed c l e) k

-- ---- whether a read failed

-- a mark is lost only where the count rose
pub broke_then : (u u' : Bool) (f g h : ℕ) → f ≤ g → g ≤ h → (u ≡ false → Rose f g) → ((Rose g h → ⊥) → u' ≡ u) → u' ≡ false → Rose f h
broke_then u u' f g h first then before step e = elim (cases_lt h (min (g + 1) last_count)) [
  | inl still ↦ rose_first f g h (before (sym (step (λ r. absurd (omega (arith, r, still)))) ∙ e)) then
  | inr rose ↦ rose_last f g h first rose
]
