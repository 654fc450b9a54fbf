-- Where a file ends whole.
use Rattle.std.proofs.Common.{◌≡◌, ℕ, zero, suc, ◌+◌, ◌<◌, ◌≤◌, ◌↔◌, Bool, true, false, not, cond, eqb, List, [], ◌∷◌, ◌++◌, length, take, drop, Result, Ok, Err, refl, sym, ap, ◌∙◌, subst, length-append, length-drop, arith}
use Rattle.std.specs.Prelude.{◌&&◌}
use Rattle.std.proofs.lemmas.Bool.{and_parts, and_from, eq-eqb, eqb-true, leb-false, lt-leb}
use Rattle.std.proofs.lemmas.List.{append-nil, drop_at, nil_from_length, take_all}
use Rattle.std.proofs.Math.Seq.{drop-append-add}
use Rattle.byte_feed.specs.declared.damage.Stop.{Stop}
use Rattle.byte_feed.specs.declared.damage.DbFault.TheVariants as faults
use Rattle.byte_feed.specs.Front.{Format, spelling, left_by, limit, readable, on_ok, items_within, items_of, front, IsBytes, Shrinks, Laws}
use Rattle.byte_feed.specs.Endings.{end_by}
use Rattle.byte_feed.specs.Paths.{rest_of, contents}
use Rattle.byte_feed.proofs.Fronts.{items_of_begins, IsBytes-take}

on_ok_cases : {A B E : Type 0} (P : B → Type 0) (none : B) (f : A → B) (r : Result A E) → ((e : E) → r ≡ Err e → P none) → ((x : A) → r ≡ Ok x → P (f x)) → P (on_ok none f r)
on_ok_cases P none f (Ok x) bare some = some x refl
on_ok_cases P none f (Err e) bare some = bare e refl

not_both : {A E : Type 0} (r : Result A E) (x : A) (e : E) → r ≡ Ok x → r ≡ Err e → ⊥
not_both r x e a b = absurd (let z = sym a ∙ b in cc)

-- behind these items no further one stands
abbrev pub StopsBehind : (f : Format) → Bool → f.State → List ℕ → List f.Item → Type 0
StopsBehind f last s bytes items = (x : f.Item × List ℕ) → f.item_at last (left_by f s items) (drop (length (spelling f items)) bytes) ≡ Ok x → ⊥

within_stops : (f : Format) → Shrinks f → Laws f → (n : ℕ) (last : Bool) (s : f.State) (bytes : List ℕ) → IsBytes bytes → length bytes ≤ n → StopsBehind f last s bytes (items_within f n last s bytes)
unfolding items_within
within_stops f sh laws zero last s bytes small fits = λ (x : f.Item × List ℕ) e. absurd (omega (arith, sh.shorter last s bytes x.0 x.1 e))
within_stops f sh laws (suc n) last s bytes small fits =
    on_ok_cases (StopsBehind f last s bytes) [] (λ x. x.0 ∷ items_within f n last (f.after s x.0) x.1) (f.item_at last s bytes)
    (λ stop e x h. not_both (f.item_at last s bytes) x stop h e)
    (λ (x : f.Item × List ℕ) e y h.
    let t = laws.takes last s bytes x.0 x.1 small e in
    let is : List f.Item = items_within f n last (f.after s x.0) x.1 in
    let behind : drop (length (f.spell x.0 ++ spelling f is)) bytes ≡ drop (length (spelling f is)) x.1 =
    ap (λ (k : ℕ). drop k bytes) (length-append (f.spell x.0) (spelling f is)) ∙ ap (drop (length (f.spell x.0) + length (spelling f is))) t.1 ∙ drop-append-add (f.spell x.0) x.1 (length (spelling f is)) in
    within_stops f sh laws n last (f.after s x.0) x.1 t.2 (omega (arith, sh.shorter last s bytes x.0 x.1 e)) y
    (subst (λ (r : List ℕ). f.item_at last (left_by f (f.after s x.0) is) r ≡ Ok y) behind h))

pub items_stop : (f : Format) → Shrinks f → Laws f → (last : Bool) (s : f.State) (bytes : List ℕ) → IsBytes bytes → StopsBehind f last s bytes (items_of f last s bytes)
unfolding items_of
items_stop f sh laws last s bytes small = within_stops f sh laws (length bytes) last s bytes small (omega arith)

end_is : {A : Type 0} (b more : Bool) (place : ℕ) (r : Result A Stop) → ((x : A) → r ≡ Ok x → ⊥) → cond b (cond more (Err faults.TooLarge) (Ok tt)) (end_by place more r) ≡ Ok tt → (b ≡ true) × (more ≡ false)
end_is true true place r none e = absurd cc
end_is true false place r none e = (refl, refl)
end_is false more place (Ok x) none e = absurd (none x refl)
end_is false more place (Err s) none e = absurd cc

end_from : {A : Type 0} (b more : Bool) (place : ℕ) (r : Result A Stop) → b ≡ true → more ≡ false → cond b (cond more (Err faults.TooLarge) (Ok tt)) (end_by place more r) ≡ Ok tt
end_from b more place r done below = rw (done, below) refl

-- A file ends whole where it is the spelling of its front, the format may end there, and no byte stands at the limit.
pub record IsWhole (f : Format) (file : List ℕ) : Type 0 where
  pub below : length file < limit
  pub spelled : spelling f (front f file) ≡ file
  pub may : f.may_end (left_by f f.begin (front f file)) ≡ true

ends_to : (f : Format) → Shrinks f → Laws f → (file : List ℕ) → IsBytes file → (contents f file).ending ≡ Ok tt → IsWhole f file
unfolding rest_of
ends_to f sh laws file small e =
    let w = readable file in
    let items : List f.Item = front f file in
    let len : ℕ = length (spelling f items) in
    let s : f.State = left_by f f.begin items in
    let small_window = IsBytes-take limit file small in
    let h = end_is (f.may_end s && eqb (length (drop len w.bytes)) 0) w.more (0 + len) (f.item_at (not w.more) s (drop len w.bytes)) (items_stop f sh laws (not w.more) f.begin w.bytes small_window) e in
    let both = and_parts (f.may_end s) (eqb (length (drop len w.bytes)) 0) h.0 in
    let below : length file < limit = leb-false limit (length file) h.1 in
    let all : take limit file ≡ file = take_all limit file (omega (arith, below)) in
    let b = items_of_begins f laws f.begin w.bytes w.more small_window in
    let behind : drop len w.bytes ≡ b.rest = ap (drop len) b.whole ∙ drop_at (spelling f items) b.rest len refl in
    let none : b.rest ≡ [] = nil_from_length b.rest (sym (ap length behind) ∙ eqb-true (length (drop len w.bytes)) 0 both.1) in
    record {
      below = below;
      spelled = sym (sym all ∙ b.whole ∙ ap (λ (r : List ℕ). spelling f items ++ r) none ∙ append-nil (spelling f items));
      may = both.0;
    }

pub ends_from : (f : Format) (file : List ℕ) → IsWhole f file → (contents f file).ending ≡ Ok tt
unfolding rest_of
ends_from f file h =
    let w = readable file in
    let items : List f.Item = front f file in
    let len : ℕ = length (spelling f items) in
    let s : f.State = left_by f f.begin items in
    let goes_on : w.more ≡ false = lt-leb limit (length file) h.below in
    let all : take limit file ≡ file = take_all limit file (omega (arith, h.below)) in
    let none : length (drop len w.bytes) ≡ 0 = length-drop len w.bytes ∙ omega (arith, ap length all, ap length h.spelled) in
    let done : (f.may_end s && eqb (length (drop len w.bytes)) 0) ≡ true = and_from (f.may_end s) (eqb (length (drop len w.bytes)) 0) h.may (eq-eqb (length (drop len w.bytes)) 0 none) in
    end_from (f.may_end s && eqb (length (drop len w.bytes)) 0) w.more (0 + len) (f.item_at (not w.more) s (drop len w.bytes)) done goes_on

pub whole_iff : (f : Format) → Shrinks f → Laws f → (file : List ℕ) → IsBytes file → ((contents f file).ending ≡ Ok tt) ↔ IsWhole f file
whole_iff f sh laws file small = (ends_to f sh laws file small, ends_from f file)
