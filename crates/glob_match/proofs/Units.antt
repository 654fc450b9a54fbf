-- Reading the items of a pattern one after another.
use Rattle.std.proofs.Common.{◌≡◌, ℕ, zero, suc, ◌+◌, ◌-◌, ◌<◌, ◌≤◌, Bool, true, false, ◌||◌, ◌==◌, List, [], ◌∷◌, ◌++◌, length, drop, get_or, Option, Some, None, is_some, IsTrue, refl, sym, ap, ◌∙◌, arith, append_assoc, length-drop}
use Rattle.std.proofs.lemmas.List.{drop-drop}
use Rattle.std.proofs.lemmas.Bool.{ne_eqb, cond_both, false≢true}
use Rattle.memchr.specs.Find.{FindsNeedle, OccursAt}
use Rattle.byte_class.specs.declared.byte_set.ByteSet.{ByteSet}
use Rattle.byte_class.specs.ByteSet.{has, members, folded, in_set}
use Rattle.glob_match.specs.Bracket.{quoted, bracket}
use Rattle.glob_match.specs.Item.{Item, Star, OneOf}
use Rattle.glob_match.specs.Pattern.{Wanted, literal, any_byte, item_at, items, is_special, is_plain, wanted, items_of, wanted_of, InGlob}
use Rattle.byte_class.proofs.Members.{members_agree, in_set_agree}

pub literal-exact : (byte : ℕ) → literal false byte ≡ OneOf (members (λ x. x == byte))
unfolding literal folded
literal-exact byte = refl

pub literal-folded : (byte : ℕ) (empty set closed : ByteSet) → ((x : ℕ) → x < 256 → has empty x ≡ false) → ((x : ℕ) → x < 256 → has set x ≡ (has empty x || x == byte)) → ((x : ℕ) → x < 256 → has closed x ≡ in_set true false (has set) x) → literal true byte ≡ OneOf (members (has closed))
unfolding literal in_set
literal-folded byte empty set closed none one says =
    let same = λ (x : ℕ) (fits : x < 256). (rw (none x fits) at (one x fits)) in
    ap OneOf (members_agree (in_set true false (λ x. x == byte)) (has closed) (λ x fits. sym (says x fits ∙ in_set_agree true false (has set) (λ x. x == byte) same x fits)))

module _ (fold : Bool) (x : ℕ) (text : List ℕ) where
  pub item_at-star : x ≡ 42 → item_at fold x text ≡ (Star, text)
  unfolding item_at
  item_at-star e = rw e refl

  pub item_at-any : (set : ByteSet) → x ≡ 63 → ((b : ℕ) → b < 256 → has set b ≡ true) → item_at fold x text ≡ (OneOf (members (has set)), text)
  unfolding item_at any_byte
  item_at-any set e all = rw (e, members_agree (has set) (λ b. true) all) refl

  pub item_at-quoted : x ≡ 92 → item_at fold x text ≡ (literal fold (quoted (x ∷ text)).0, drop ((quoted (x ∷ text)).1 - 1) text)
  unfolding item_at
  item_at-quoted e = rw e refl

  pub item_at-bracket : (r : Item × List ℕ) → x ≡ 91 → bracket fold text ≡ Some r → item_at fold x text ≡ r
  unfolding item_at
  item_at-bracket r e is = rw (e, is) refl

  pub item_at-open : x ≡ 91 → bracket fold text ≡ None → item_at fold x text ≡ (literal fold x, text)
  unfolding item_at
  item_at-open e is = rw (e, is) refl

  pub item_at-other : (x ≡ 42 → ⊥) → (x ≡ 63 → ⊥) → (x ≡ 91 → ⊥) → (x ≡ 92 → ⊥) → item_at fold x text ≡ (literal fold x, text)
  unfolding item_at
  item_at-other a b c d = rw (ne_eqb x 42 a, ne_eqb x 63 b, ne_eqb x 92 d, ne_eqb x 91 c) refl

pub head_and_tail : (text : List ℕ) → 0 < length text → get_or text 0 0 ∷ drop 1 text ≡ text
head_and_tail [] some = absurd (omega arith)
head_and_tail (x ∷ text) some = refl

pub items-skip : (fold : Bool) (skip : ℕ) (text : List ℕ) → items fold skip text ≡ items fold 0 (drop skip text)
unfolding items
items-skip fold zero text = refl
items-skip fold (suc skip) [] = refl
items-skip fold (suc skip) (x ∷ text) = items-skip fold skip text

pub items-nil : (fold : Bool) → items fold 0 [] ≡ []
unfolding items
items-nil fold = refl

-- the items from one on, where the item takes n bytes
pub items-more : (fold : Bool) (text : List ℕ) (n : ℕ) → 0 < n → n ≤ length text → (item_at fold (get_or text 0 0) (drop 1 text)).1 ≡ drop n text → items fold 0 text ≡ (item_at fold (get_or text 0 0) (drop 1 text)).0 ∷ items fold 0 (drop n text)
unfolding items
items-more fold [] n some within rest = absurd (omega arith)
items-more fold (x ∷ text) zero some within rest = absurd (omega arith)
items-more fold (x ∷ text) (suc n) some within rest =
    let taken : length text - length (item_at fold x text).1 ≡ n = rw rest (omega (arith, length-drop n text)) in
    ap (λ l. (item_at fold x text).0 ∷ l) (ap (λ k. items fold k text) taken ∙ items-skip fold n text)

-- one more item is read
pub items-read : (fold : Bool) (pattern : List ℕ) (at n : ℕ) (old new : List Item) → 0 < n → n ≤ length (drop at pattern) → (item_at fold (get_or (drop at pattern) 0 0) (drop 1 (drop at pattern))).1 ≡ drop n (drop at pattern) → new ≡ old ++ (item_at fold (get_or (drop at pattern) 0 0) (drop 1 (drop at pattern))).0 ∷ [] → new ++ items fold 0 (drop (at + n) pattern) ≡ old ++ items fold 0 (drop at pattern)
items-read fold pattern at n old new some within rest pushed =
    rw (pushed, items-more fold (drop at pattern) n some within rest, drop-drop n at pattern) (append_assoc old _ _)

pub quoted-some : (text : List ℕ) → 0 < length text → 0 < (quoted text).1
unfolding quoted
quoted-some [] some = absurd (omega arith)
quoted-some (x ∷ []) some = omega arith
quoted-some (x ∷ y ∷ text) some =
    let two : ℕ × ℕ = (y, 2) in
    let one : ℕ × ℕ = (x, 1) in
    cond_both (x == 92) two one (λ r. 0 < r.1) (λ e. omega arith) (λ e. omega arith)

pub item_at-quoted_whole : (fold : Bool) (text : List ℕ) → 0 < length text → get_or text 0 0 ≡ 92 → item_at fold (get_or text 0 0) (drop 1 text) ≡ (literal fold (quoted text).0, drop (quoted text).1 text)
item_at-quoted_whole fold text some e =
    let t = head_and_tail text some in
    let q : item_at fold (get_or text 0 0) (drop 1 text) ≡ (literal fold (quoted text).0, drop ((quoted text).1 - 1) (drop 1 text)) = rw t at (item_at-quoted fold (get_or text 0 0) (drop 1 text) e) in
    q ∙ ap (λ rest. (literal fold (quoted text).0, rest)) (drop-drop ((quoted text).1 - 1) 1 text ∙ ap (λ n. drop n text) (omega (arith, quoted-some text some)))

-- what follows a bracket expression in the whole text
pub bracket_rest : (text : List ℕ) (taken : ℕ) → drop taken (drop 1 text) ≡ drop (taken + 1) text
bracket_rest text taken = drop-drop taken 1 text ∙ ap (λ n. drop n text) (omega arith)

occurs : (text bytes : List ℕ) (r : Option ℕ) → FindsNeedle text bytes 0 r → (is_some r ≡ true → (place : ℕ) × OccursAt text bytes place) × ((place : ℕ) × OccursAt text bytes place → is_some r ≡ true)
occurs text bytes None h = (λ e. absurd (false≢true e), λ o. absurd (h o.0 (omega arith) (omega (arith, o.1.fits)) o.1))
occurs text bytes (Some place) h = (λ e. (place, h.1), λ o. refl)

-- what a search for a plain pattern answers
pub InGlob-found : (finder : Option (List ℕ)) (kept : List Item) (wanted : Wanted) (bytes text : List ℕ) (place : Option ℕ) (found : Bool) → wanted_of finder kept ≡ wanted → finder ≡ Some bytes → FindsNeedle text bytes 0 place → found ≡ is_some place → (IsTrue found → InGlob wanted text) × (InGlob wanted text → IsTrue found)
InGlob-found finder kept wanted bytes text place found view is finds says =
    let plain : wanted_of (Some bytes) kept ≡ wanted = rw is at view in
    rw (← plain, says) (occurs text bytes place finds)

-- the pattern `*b` has two items
pub star_b-items : length (items_of (wanted (42 ∷ 98 ∷ []) false)) ≡ 2
unfolding wanted is_plain is_special items item_at literal
star_b-items = refl
