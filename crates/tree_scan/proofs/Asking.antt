-- The order of the pending paths, and what a voucher still has for those to come.
use Rattle.std.proofs.Common.{◌≡◌, ℕ, zero, suc, ◌<◌, Bool, true, false, ◌&&◌, ◌||◌, T, IsTrue, All, List, [], ◌∷◌, ◌++◌, length, filter, get_or, refl, sym, ◌∙◌, ap, subst, arith, ◌⊎◌, inl, inr, Option, Some, None, Contains, IfSome, IsSome, IsSomeAnd, is_some, true≢false, nat_cmp, append-nil}
use Rattle.std.specs.List.{list_any}
use Rattle.std.specs.Str.{bytes_eq}
use Rattle.std.specs.Cmp.Lexicographic.{slice_cmp, bytes_decides}
use Rattle.path_order.specs.declared.kind.Kind.{Kind}
use Rattle.path_order.specs.NameList.{Listed}
use Rattle.path_order.specs.Path.{is_root, joined}
use Rattle.path_order.specs.Stamp.{Moment}
use Rattle.loc_outside.specs.Trees.{Dir, Dirs}
use Rattle.tree_scan.specs.Admitted.{admitted, is_directory, fits_in, paths_in}
use Rattle.tree_scan.specs.Blocks.{time_of}
use Rattle.tree_scan.specs.Plan.{Plan}
use Rattle.tree_scan.specs.Records.{Record, Vouches, Fitting, Honest, Leaves, Relied, answers_all, bears, is_vouched, known}
use Rattle.tree_scan.specs.Walks.{AddsChildren}
use Rattle.tree_scan.proofs.Lists.{Each, Has, Rises, each_more, each_append, each_map, each_filter, rises_filter, rises_append, rises_map}
use Rattle.tree_scan.proofs.Order.{Before}
use Rattle.tree_scan.proofs.WalkRecursion.{IsGood, good}
use Rattle.tree_scan.proofs.Sorted.{Under, IsChild, Apart, ByName, siblings, rises_sorted, joined_no_root, below_child, before_child}

each_of : {A : Type 0} (P : A → Type 0) (xs : List A) → All P xs → Each P xs
each_of P [] h = tt
each_of P (x ∷ xs) h = (h zero x (omega arith), each_of P xs (λ k d l. h (suc k) d (omega (arith, l))))

true_t : (b : Bool) → b ≡ true → T b
true_t true e = tt
true_t false e = absurd (true≢false (sym e))

names_good : (path : List ℕ) (names : Listed) → Fitting path names → Each (λ e. IsGood path e.0) names
names_good path names f = each_more _ _ (λ e h. good path e.0 h) names (each_of (λ (e : List ℕ × Kind). IsTrue (fits_in path e.0)) names f.fit)

-- the children of a directory, in order
children_rise : (path : List ℕ) (names : Listed) → Fitting path names → Rises Apart (paths_in path names)
children_rise path names f =
    rises_map ByName Apart (λ (e : List ℕ × Kind). IsGood path e.0) (λ e. joined path e.0) (λ a b g h less. siblings path a.0 b.0 g h less) _
    (each_filter (λ e. IsGood path e.0) (λ e. is_directory e.1) names (names_good path names f))
    (rises_filter ByName (λ e. is_directory e.1) names (rises_sorted (slice_cmp nat_cmp) names (true_t _ f.rise)))

pub children : (path : List ℕ) (names : Listed) → Fitting path names → Each (IsChild path) (paths_in path names)
children path names f =
    each_map (IsChild path) (λ e. joined path e.0) (filter (λ e. is_directory e.1) names)
    (each_more _ _ (λ e g. record { name = e.0; good = g; is = refl }) _ (each_filter (λ e. IsGood path e.0) (λ e. is_directory e.1) names (names_good path names f)))

pub under_itself : (p : List ℕ) → Under p p
under_itself p = record { tail = []; is = sym (append-nil p); ends = tt }

child_no_root : (path c : List ℕ) → IsChild path c → is_root c ≡ false
child_no_root path c h = ap is_root h.is ∙ joined_no_root path h.name h.good.long

under_child : (path c x : List ℕ) → is_root path ≡ false → IsChild path c → Under c x → Under path x
under_child path c x low h u = below_child path h.name x low (subst (λ (d : List ℕ). Under d x) h.is u)

pub after_child : (path c x : List ℕ) → IsChild path c → Under c x → Before path x
after_child path c x h u = before_child path h.name x h.good (subst (λ (d : List ℕ). Under d x) h.is u)

-- a child of a path is apart from what the path is apart from
child_apart : (path c p : List ℕ) → IsChild path c → Apart path p → Apart c p
child_apart path c p h a = record {
  first = child_no_root path c h;
  second = a.second;
  before = λ x y u v. a.before x y (under_child path c x a.first h u) v;
}

abbrev pub Low : List (List ℕ) → Type 0
Low pending = Each (λ p. is_root p ≡ false) pending

pub low_step : (path : List ℕ) (rest new : List (List ℕ)) → AddsChildren path rest new → Low rest → Low new
low_step path rest new a low =
    subst Low (sym a.are) (each_append (λ p. is_root p ≡ false) (paths_in path a.names) rest (each_more _ _ (λ c h. child_no_root path c h) _ (children path a.names a.fitting)) low)

apart_all : (path : List ℕ) (cs rest : List (List ℕ)) → Each (IsChild path) cs → Each (Apart path) rest → Each (λ c. Each (Apart c) rest) cs
apart_all path [] rest h a = tt
apart_all path (c ∷ cs) rest h a = (each_more (Apart path) (Apart c) (λ p k. child_apart path c p h.0 k) rest a, apart_all path cs rest h.1 a)

-- the pending paths rise, each with what is under it
pub order_step : (path : List ℕ) (rest new : List (List ℕ)) → AddsChildren path rest new → Rises Apart (path ∷ rest) → Rises Apart new
order_step path rest new a rise =
    subst (Rises Apart) (sym a.are) (rises_append Apart (paths_in path a.names) rest (children_rise path a.names a.fitting) rise.1 (apart_all path (paths_in path a.names) rest (children path a.names a.fitting) rise.0))

-- what is left of the records that were known at the entry
abbrev pub Fewer : Option (List Record) → Option (List Record) → Type 0
Fewer entry now = IfSome entry (λ e. IsSomeAnd now (λ n. (r : Record) → Contains n r → Contains e r))

pub fewer_same : (entry : Option (List Record)) → Fewer entry entry
fewer_same None = tt
fewer_same (Some e) = λ r h. h

pub fewer_known : (entry now : Option (List Record)) → IsSome entry → Fewer entry now → (r : Record) → Contains (known now) r → Contains (known entry) r
fewer_known None now s f = absurd (true≢false (sym s))
fewer_known (Some e) None s f = absurd f
fewer_known (Some e) (Some n) s f = f

pub fewer_left : (path : List ℕ) (entry now left : Option (List Record)) (ordered unbroken : Bool) → Fewer entry now → Leaves path now ordered left unbroken → Fewer entry left
fewer_left path None now left ordered unbroken f l = tt
fewer_left path (Some e) None left ordered unbroken f l = absurd f
fewer_left path (Some e) (Some n) None ordered unbroken f l = absurd l
fewer_left path (Some e) (Some n) (Some m) ordered unbroken f l = λ r h. f r (l.some r h)

pub honest_known : (entry : Option (List Record)) (dirs : Dirs) (plan : Plan) → Honest entry dirs plan → IsSome entry
honest_known None dirs plan h = absurd h
honest_known (Some e) dirs plan h = refl

first_true : (a b : Bool) → (a && b) ≡ true → a ≡ true
first_true true b e = refl
first_true false b e = cc

second_true : (a b : Bool) → (a && b) ≡ true → b ≡ true
second_true true b e = e
second_true false b e = cc

both_true : (a b : Bool) → a ≡ true → b ≡ true → (a && b) ≡ true
both_true a b e f = cc

pub mark_known : (o : Option (List Record)) (a b : Bool) → IsTrue (answers_all o a b) → IsSome o
mark_known o a b w = first_true (is_some o) (a && b) w

pub mark_before : (o : Option (List Record)) (a b' b : Bool) → (IsTrue b' → IsTrue b) → IsTrue (answers_all o a b') → IsTrue (answers_all o a b)
mark_before o a b' b f w =
    let ab = second_true (is_some o) (a && b') w in
    both_true (is_some o) (a && b) (first_true (is_some o) (a && b') w) (both_true a b (first_true a b' ab) (f (second_true a b' ab)))

pub some_now : (entry now : Option (List Record)) → IsSome entry → Fewer entry now → IsSome now
some_now None now s f = absurd (true≢false (sym s))
some_now (Some e) None s f = absurd f
some_now (Some e) (Some n) s f = refl

pub mark_now : (entry now : Option (List Record)) (a a' b : Bool) → Fewer entry now → (IsTrue a → IsTrue a') → IsTrue (answers_all entry a b) → IsTrue (answers_all now a' b)
mark_now entry now a a' b f keeps w =
    let ab = second_true (is_some entry) (a && b) w in
    both_true (is_some now) (a' && b) (some_now entry now (first_true (is_some entry) (a && b) w) f) (both_true a' b (keeps (first_true a b ab)) (second_true a b ab))

-- a record whose path comes later is left
later_left : (path : List ℕ) (now left : Option (List Record)) (a b : Bool) → IsTrue (answers_all now a b) → Leaves path now a left b → (r : Record) → Contains (known now) r → Before path r.path → Contains (known left) r
later_left path None left a b w l = absurd (true≢false (sym (first_true (is_some {T = List Record} None) (a && b) w)))
later_left path (Some n) None a b w l = absurd l
later_left path (Some n) (Some m) a b w l =
    let ab = second_true (is_some {T = List Record} (Some n)) (a && b) w in
    l.later (first_true a b ab) (second_true a b ab)

pub leaves_same : (path : List ℕ) (records : Option (List Record)) (ordered unbroken : Bool) → Leaves path records ordered records unbroken
leaves_same path None ordered unbroken = tt
leaves_same path (Some e) ordered unbroken = record { some = λ r h. h; later = λ o u r h b. h }

-- the records of paths that are to come are still there while the voucher is whole
abbrev pub Keeps : List Record → List Record → Bool → List (List ℕ) → Type 0
Keeps entry now whole pending = IsTrue whole → (r : Record) → Contains entry r → (p : List ℕ) → Has p pending → Under p r.path → Contains now r

has_split : {A : Type 0} (x : A) (xs ys : List A) → Has x (xs ++ ys) → Has x xs ⊎ Has x ys
has_split x [] ys h = inr h
has_split x (y ∷ xs) ys (inl e) = inl (inl e)
has_split x (y ∷ xs) ys (inr h) = by (has_split x xs ys h)
  where
    by : Has x xs ⊎ Has x ys → Has x (y ∷ xs) ⊎ Has x ys
    by (inl k) = inl (inr k)
    by (inr k) = inr k

each_has : {A : Type 0} (P : A → Type 0) (x : A) (xs : List A) → Each P xs → Has x xs → P x
each_has P x [] h k = absurd k
each_has P x (y ∷ ys) h (inl e) = subst P (sym e) h.0
each_has P x (y ∷ ys) h (inr k) = each_has P x ys h.1 k

pub keeps_step : (path : List ℕ) (rest new : List (List ℕ)) (entry records records' : Option (List Record)) (a a' b b' : Bool) → is_root path ≡ false → Rises Apart (path ∷ rest) → AddsChildren path rest new → Fewer entry records → (IsTrue a → IsTrue a') → (IsTrue b' → IsTrue b)
    → Leaves path records a' records' b' → Keeps (known entry) (known records) (answers_all entry a b) (path ∷ rest) → Keeps (known entry) (known records') (answers_all entry a b') new
keeps_step path rest new entry records records' a a' b b' low rise adds fewer ordered unbroken leaves keeps w r there p has under =
    by (has_split p (paths_in path adds.names) rest (subst (λ (l : List (List ℕ)). Has p l) adds.are has))
  where
    now : IsTrue (answers_all records a' b')
    now = mark_now entry records a a' b' fewer ordered w

    old : IsTrue (answers_all entry a b)
    old = mark_before entry a b' b unbroken w

    by : Has p (paths_in path adds.names) ⊎ Has p rest → Contains (known records') r
    by (inl k) =
        let child = each_has (IsChild path) p (paths_in path adds.names) (children path adds.names adds.fitting) k in
        later_left path records records' a' b' now leaves r (keeps old r there path (inl refl) (under_child path p r.path low child under)) (after_child path p r.path child under)
    by (inr k) =
        let apart = each_has (Apart path) p rest rise.0 k in
        later_left path records records' a' b' now leaves r (keeps old r there p (inr k) under) (apart.before path r.path (under_itself path) under)

pub keeps_begin : (root : List ℕ) (new : List (List ℕ)) (entry records' : Option (List Record)) (a b' : Bool) → AddsChildren root [] new → Leaves root entry a records' b' → Keeps (known entry) (known records') (answers_all entry a b') new
keeps_begin root new entry records' a b' adds leaves w r there p has under =
    by (has_split p (paths_in root adds.names) [] (subst (λ (l : List (List ℕ)). Has p l) adds.are has))
  where
    by : Has p (paths_in root adds.names) ⊎ Has {A = List ℕ} p [] → Contains (known records') r
    by (inl k) = later_left root entry records' a b' w leaves r there (after_child root p r.path (each_has (IsChild root) p (paths_in root adds.names) (children root adds.names adds.fitting) k) under)
    by (inr k) = absurd k

-- a record that passes, where one does
pub record Passing (p : Record → Bool) (rs : List Record) : Type 0 where
  pub known : Record
  pub there : Contains rs known
  pub pass : p known ≡ true

any_has : (p : Record → Bool) (rs : List Record) → list_any p rs ≡ true → Passing p rs
any_has p [] e = absurd (true≢false (sym e))
any_has p (r ∷ rs) e = by (p r) refl e (any_has p rs)
  where
    by : (b : Bool) → p r ≡ b → (b || list_any p rs) ≡ true → (list_any p rs ≡ true → Passing p rs) → Passing p (r ∷ rs)
    by true q h f = record { known = r; there = (0, omega arith, refl); pass = q }
    by false q h f =
        let x = f h in
        let c = x.there in
        record { known = x.known; there = (suc c.0, omega (arith, c.1), c.2); pass = x.pass }

or_true : (a b : Bool) → b ≡ true → (a || b) ≡ true
or_true true b e = refl
or_true false b e = e

has_any : (p : Record → Bool) (rs : List Record) (k : ℕ) (r : Record) → k < length rs → get_or rs k r ≡ r → p r ≡ true → list_any p rs ≡ true
has_any p [] k r h e t = absurd (omega (arith, h))
has_any p (x ∷ rs) zero r h e t = ap (λ (b : Bool). b || list_any p rs) (ap p e ∙ t)
has_any p (x ∷ rs) (suc k) r h e t = or_true (p x) (list_any p rs) (has_any p rs k r (omega (arith, h)) e t)

either_way : (a b : Bool) → (a ≡ true → b ≡ true) → (b ≡ true → a ≡ true) → a ≡ b
either_way true b f g = sym (f refl)
either_way false true f g = g refl
either_way false false f g = refl

-- a record that vouches is one of its path that bears the time
pub vouches_is : (records : List Record) (path : List ℕ) (time : Moment) (device : ℕ) (names : Listed) → Vouches records path time device names → is_vouched records path time device ≡ true
vouches_is records path time device names v =
    let c = v.there in
    has_any (λ r. bytes_eq r.path path && bears r time device) records c.0 v.known c.1 c.2 (both_true (bytes_eq v.known.path path) (bears v.known time device) ((bytes_decides v.known.path path).1 v.at) v.bearing)

-- fewer records vouch for no more
pub fewer_vouched : (now entry : List Record) (path : List ℕ) (time : Moment) (device : ℕ) → ((r : Record) → Contains now r → Contains entry r) → is_vouched now path time device ≡ true → is_vouched entry path time device ≡ true
fewer_vouched now entry path time device fewer t =
    let p : Record → Bool = λ r. bytes_eq r.path path && bears r time device in
    let x = any_has p now t in
    let c = fewer x.known x.there in
    has_any p entry c.0 x.known c.1 c.2 x.pass

-- two lists of records that have the same ones of a path
pub same_vouched : (now entry : List Record) (path : List ℕ) (time : Moment) (device : ℕ) → ((r : Record) → Contains now r → Contains entry r) → ((r : Record) → Contains entry r → r.path ≡ path → Contains now r)
    → is_vouched now path time device ≡ is_vouched entry path time device
same_vouched now entry path time device fewer more =
    let p : Record → Bool = λ r. bytes_eq r.path path && bears r time device in
    either_way _ _
    (λ t. let x = any_has p now t in let c = fewer x.known x.there in has_any p entry c.0 x.known c.1 c.2 x.pass)
    (λ t. let x = any_has p entry t in let c = more x.known x.there ((bytes_decides x.known.path path).0 (first_true _ (bears x.known time device) x.pass)) in has_any p now c.0 x.known c.1 c.2 x.pass)

-- the same of records that may be unknown
pub vouches_known : (o : Option (List Record)) (path : List ℕ) (time : Moment) (device : ℕ) (names : Listed) → IsSome o → IfSome o (λ records. Vouches records path time device names) → is_vouched (known o) path time device ≡ true
vouches_known None path time device names s v = absurd (true≢false (sym s))
vouches_known (Some records) path time device names s v = vouches_is records path time device names v

pub none_known : (o : Option (List Record)) (a b : Bool) (path : List ℕ) (time : Moment) (device : ℕ) → IsTrue (answers_all o a b) → (IsTrue a → IsTrue b → IfSome o (λ records. is_vouched records path time device ≡ false)) → is_vouched (known o) path time device ≡ false
none_known None a b path time device w f = absurd (true≢false (sym (first_true (is_some {T = List Record} None) (a && b) w)))
none_known (Some records) a b path time device w f =
    let ab = second_true (is_some {T = List Record} (Some records)) (a && b) w in
    f (first_true a b ab) (second_true a b ab)

pub relied_on : (o : Option (List Record)) (device : ℕ) (path : List ℕ) (dir : Dir) (names : Listed) → IfSome o (λ records. Vouches records path (time_of dir.times) device names) → Relied o device path dir → (dir.hidden ≡ false) × (names ≡ admitted path dir)
relied_on None device path dir names v relied = absurd relied
relied_on (Some records) device path dir names v relied = let r = relied names v in (r.0, sym r.1)
