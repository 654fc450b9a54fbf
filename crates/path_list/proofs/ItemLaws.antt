-- What is read of an item is spelled so and keeps the rules, and what is spelled so is read.
use Rattle.std.proofs.Common.{◌≡◌, ◌≢◌, ℕ, ◌+◌, ◌<◌, ◌≤◌, Bool, true, false, cond, leb, ltb, All, List, [], ◌∷◌, ◌++◌, length, get_or, take, drop, Result, Ok, Err, refl, sym, ap, ◌∙◌, subst, append_assoc, append-nil, length-append, arith}
use Rattle.std.specs.Prelude.{◌&&◌}
use Rattle.std.specs.List.{position_or_len, before_first, after_first, list_all}
use Rattle.std.proofs.lemmas.Bool.{lt-ltb, ltb-true, le-ltb, ltb-false, le-leb, leb-true, eq-eqb, eqb-true, eqb-false, ne_eqb}
use Rattle.std.proofs.lemmas.List.{take_at, take_all, length-take-le, get_or-take, get_or_append_left}
use Rattle.std.proofs.lemmas.List.Sums.{position_or_len_is, fails_before_first, passes_at_first, split_at_first, AllPass-from_list_all, list_all-from_AllPass}
use Rattle.std.proofs.Math.Seq.{drop-append-add, get_or-append_seam}
use Rattle.byte_feed.specs.declared.damage.DamageCause.TheVariants.{Cut, LongPath, EmptyPath, ZeroChar}
use Rattle.byte_feed.specs.declared.damage.Stop.{Stop}
use Rattle.byte_feed.specs.declared.damage.Stop.TheVariants.{Broken}
use Rattle.byte_feed.specs.Field.{◌>>=◌, demand, max_path}
use Rattle.byte_feed.specs.Front.{IsBytes, Laws, Shrinks}
use Rattle.byte_feed.proofs.Fields.{seq, demand_ok, ok_is}
use Rattle.byte_feed.proofs.Takes.{IsBytes-behind}
use Rattle.path_list.specs.Items.{Item, Marked, Unmarked, spell, IsListed, allowed, is_mark, path_test, marked_at, unmarked_at, path_at, item_at, list_by}

abbrev pub Bare : ℕ → List ℕ → Type 0
Bare mark path = All (λ b. b ≢ mark) path

-- ---- the first mark

pub bare_len : (mark : ℕ) (path : List ℕ) → Bare mark path → position_or_len (is_mark mark) path ≡ length path
bare_len mark path bare = position_or_len_is (is_mark mark) path (length path) 0 (omega arith) (λ k lt. ne_eqb _ _ (bare k 0 lt)) (λ lt. absurd (omega arith))

pub marked_len : (mark : ℕ) (path rest : List ℕ) → Bare mark path → position_or_len (is_mark mark) (path ++ mark ∷ rest) ≡ length path
marked_len mark path rest bare =
    position_or_len_is (is_mark mark) (path ++ mark ∷ rest) (length path) 0 (omega (arith, length-append path (mark ∷ rest)))
    (λ k lt. ne_eqb _ _ (subst (λ (b : ℕ). b ≢ mark) (sym (get_or_append_left path (mark ∷ rest) 0 k lt)) (bare k 0 lt)))
    (λ lt. eq-eqb _ _ (get_or-append_seam path mark rest 0))

-- Some bytes hold a mark, or none.
pub data Split (mark : ℕ) (bytes : List ℕ) : Type 0 where
  at_mark : (path rest : List ℕ) → bytes ≡ path ++ mark ∷ rest → Bare mark path → Split mark bytes
  no_mark : Bare mark bytes → Split mark bytes

split_by : (mark : ℕ) (bytes : List ℕ) (b : Bool) → ltb (position_or_len (is_mark mark) bytes) (length bytes) ≡ b → Split mark bytes
split_by mark bytes true e =
    let inside = ltb-true (position_or_len (is_mark mark) bytes) (length bytes) e in
    let there : get_or bytes (position_or_len (is_mark mark) bytes) 0 ≡ mark = eqb-true _ _ (passes_at_first (is_mark mark) bytes 0 inside) in
    let size : length (before_first (is_mark mark) bytes) ≡ position_or_len (is_mark mark) bytes = length-take-le (position_or_len (is_mark mark) bytes) bytes (omega (arith, inside)) in
    at_mark (before_first (is_mark mark) bytes) (after_first (is_mark mark) bytes)
    (subst (λ (b : ℕ). bytes ≡ before_first (is_mark mark) bytes ++ b ∷ after_first (is_mark mark) bytes) there (split_at_first (is_mark mark) bytes 0 inside))
    (λ k d lt z. eqb-false _ _ (fails_before_first (is_mark mark) bytes k d (omega (arith, size, lt))) (sym (get_or-take (position_or_len (is_mark mark) bytes) bytes k d (omega (arith, size, lt))) ∙ z))
split_by mark bytes false e =
    let outside = ltb-false (position_or_len (is_mark mark) bytes) (length bytes) e in
    no_mark (λ k d lt z. eqb-false _ _ (fails_before_first (is_mark mark) bytes k d (omega (arith, outside, lt))) z)

pub split_bytes : (mark : ℕ) (bytes : List ℕ) → Split mark bytes
split_bytes mark bytes = split_by mark bytes (ltb (position_or_len (is_mark mark) bytes) (length bytes)) refl

-- ---- how it is read

pub item_marked : (mark : ℕ) (last : Bool) (path rest : List ℕ) → Bare mark path → item_at mark last (path ++ mark ∷ rest) ≡ (path_test path >>= λ _. marked_at path rest)
unfolding item_at
item_marked mark last path rest bare =
    let len = marked_len mark path rest bare in
    let front : path_at mark (path ++ mark ∷ rest) ≡ path = ap (λ (n : ℕ). take n (path ++ mark ∷ rest)) len ∙ take_at path (mark ∷ rest) (length path) refl in
    let behind : after_first (is_mark mark) (path ++ mark ∷ rest) ≡ rest = ap (λ (n : ℕ). drop (n + 1) (path ++ mark ∷ rest)) len ∙ drop-append-add path (mark ∷ rest) 1 in
    let inside : ltb (length path) (length (path ++ mark ∷ rest)) ≡ true = lt-ltb _ _ (omega (arith, length-append path (mark ∷ rest))) in
    rw (front, behind, inside) refl

pub item_open : (mark : ℕ) (last : Bool) (bytes : List ℕ) → Bare mark bytes → item_at mark last bytes ≡ (path_test bytes >>= λ _. unmarked_at last bytes)
unfolding item_at
item_open mark last bytes bare =
    let len = bare_len mark bytes bare in
    let front : path_at mark bytes ≡ bytes = ap (λ (n : ℕ). take n bytes) len ∙ take_all (length bytes) bytes (omega arith) in
    let outside : ltb (length bytes) (length bytes) ≡ false = le-ltb _ _ (omega arith) in
    rw (front, outside) refl

-- ---- the test of a path

pub test_parts : (path : List ℕ) (u : Unit {0}) → path_test path ≡ Ok u → (length path ≤ max_path) × All (λ b. 0 < b) path
test_parts path u e =
    seq (demand (list_all (ltb 0) (take (max_path + 1) path)) ZeroChar) _ _ _ e (λ (v : Unit {0}) e1 k1.
    let fits = leb-true (length path) max_path (demand_ok (leb (length path) max_path) LongPath u k1) in
    let whole : take (max_path + 1) path ≡ path = take_all (max_path + 1) path (omega (arith, fits)) in
    let pass = AllPass-from_list_all (ltb 0) (take (max_path + 1) path) (demand_ok (list_all (ltb 0) (take (max_path + 1) path)) ZeroChar v e1) in
    (fits, subst (λ (p : List ℕ). All (λ b. 0 < b) p) whole (λ k d lt. ltb-true 0 _ (pass k d lt))))

pub test_again : (path : List ℕ) → length path ≤ max_path → All (λ b. 0 < b) path → path_test path ≡ Ok tt
test_again path fits plain =
    let whole : take (max_path + 1) path ≡ path = take_all (max_path + 1) path (omega (arith, fits)) in
    let good : list_all (ltb 0) path ≡ true = list_all-from_AllPass (ltb 0) path (λ k d lt. lt-ltb 0 _ (plain k d lt)) in
    let short : leb (length path) max_path ≡ true = le-leb _ _ fits in
    rw (whole, good, short) refl

-- ---- what was read

pub record Taken (mark : ℕ) (last : Bool) (bytes : List ℕ) (i : Item) (rest : List ℕ) : Type 0 where
  pub rules : allowed mark i last rest
  pub whole : bytes ≡ spell mark i ++ rest

listed : (mark : ℕ) (path : List ℕ) → Bare mark path → 0 < length path → (length path ≤ max_path) × All (λ b. 0 < b) path → IsListed mark path
listed mark path bare some t = record { is_path = record { some = some; fits = t.0; plain = t.1 }; bare = bare }

marked_taken : (mark : ℕ) (last : Bool) (path rest : List ℕ) (i : Item) (rest' : List ℕ) → Bare mark path → (path_test path >>= λ _. marked_at path rest) ≡ Ok (i, rest') → Taken mark last (path ++ mark ∷ rest) i rest'
marked_taken mark last path rest i rest' bare e =
    seq (path_test path) _ _ _ e (λ (u : Unit {0}) e1 k1.
    seq (demand (ltb 0 (length path)) EmptyPath) _ _ _ k1 (λ (v : Unit {0}) e2 k2.
    let some = ltb-true 0 (length path) (demand_ok (ltb 0 (length path)) EmptyPath v e2) in
    subst (λ (p : Item × List ℕ). Taken mark last (path ++ mark ∷ rest) p.0 p.1) (ok_is (Marked path, rest) (i, rest') k2)
    (record { rules = listed mark path bare some (test_parts path u e1); whole = sym (append_assoc path (mark ∷ []) rest) })))

abbrev opened : Bool → List ℕ → Result (Item × List ℕ) Stop
opened b bytes = cond b (Ok (Unmarked bytes, [])) (Err (Broken Cut))

open_by : (mark : ℕ) (last some : Bool) (bytes : List ℕ) (i : Item) (rest : List ℕ) → Bare mark bytes → (length bytes ≤ max_path) × All (λ b. 0 < b) bytes → ltb 0 (length bytes) ≡ some
    → opened (last && some) bytes ≡ Ok (i, rest) → Taken mark last bytes i rest
open_by mark true true bytes i rest bare t is e =
    subst (λ (p : Item × List ℕ). Taken mark true bytes p.0 p.1) (ok_is (Unmarked bytes, []) (i, rest) e)
    (record { rules = (listed mark bytes bare (ltb-true 0 (length bytes) is) t, refl, refl); whole = sym (append-nil bytes) })
open_by mark true false bytes i rest bare t is e = absurd cc
open_by mark false some bytes i rest bare t is e = absurd cc

open_taken : (mark : ℕ) (last : Bool) (bytes : List ℕ) (i : Item) (rest : List ℕ) → Bare mark bytes → (path_test bytes >>= λ _. unmarked_at last bytes) ≡ Ok (i, rest) → Taken mark last bytes i rest
open_taken mark last bytes i rest bare e =
    seq (path_test bytes) _ _ _ e (λ (u : Unit {0}) e1 k1. open_by mark last (ltb 0 (length bytes)) bytes i rest bare (test_parts bytes u e1) refl k1)

taken_by : (mark : ℕ) (last : Bool) (bytes : List ℕ) (i : Item) (rest : List ℕ) → Split mark bytes → item_at mark last bytes ≡ Ok (i, rest) → Taken mark last bytes i rest
taken_by mark last bytes i rest (at_mark path behind whole bare) e =
    subst (λ (b : List ℕ). Taken mark last b i rest) (sym whole) (marked_taken mark last path behind i rest bare (sym (item_marked mark last path behind bare) ∙ ap (item_at mark last) (sym whole) ∙ e))
taken_by mark last bytes i rest (no_mark bare) e = open_taken mark last bytes i rest bare (sym (item_open mark last bytes bare) ∙ e)

pub item_taken : (mark : ℕ) (last : Bool) (bytes : List ℕ) (i : Item) (rest : List ℕ) → item_at mark last bytes ≡ Ok (i, rest) → Taken mark last bytes i rest
item_taken mark last bytes i rest e = taken_by mark last bytes i rest (split_bytes mark bytes) e

-- ---- what is spelled

pub item_again : (mark : ℕ) (last : Bool) (i : Item) (rest : List ℕ) → allowed mark i last rest → item_at mark last (spell mark i ++ rest) ≡ Ok (i, rest)
item_again mark last (Marked path) rest h =
    let good = test_again path h.is_path.fits h.is_path.plain in
    let some : ltb 0 (length path) ≡ true = lt-ltb 0 (length path) h.is_path.some in
    ap (item_at mark last) (append_assoc path (mark ∷ []) rest) ∙ item_marked mark last path rest h.bare ∙ rw (good, some) refl
item_again mark last (Unmarked path) rest h =
    let good = test_again path h.0.is_path.fits h.0.is_path.plain in
    let some : ltb 0 (length path) ≡ true = lt-ltb 0 (length path) h.0.is_path.some in
    rw (h.1, h.2, append-nil path) (item_open mark true path h.0.bare ∙ rw (good, some) refl)

pub spell_above : (mark : ℕ) (i : Item) (last : Bool) (rest : List ℕ) → allowed mark i last rest → 0 < length (spell mark i)
spell_above mark (Marked path) last rest h = omega (arith, length-append path (mark ∷ []))
spell_above mark (Unmarked path) last rest h = h.0.is_path.some

pub list_shrinks : (mark : ℕ) → Shrinks (list_by mark)
list_shrinks mark = record {
  shorter = λ last s bytes i rest e.
      let t = item_taken mark last bytes i rest e in
      omega (arith, ap length t.whole, length-append (spell mark i) rest, spell_above mark i last rest t.rules);
  sized = λ last s bytes i rest e. ap length (item_taken mark last bytes i rest e).whole;
}

pub list_laws : (mark : ℕ) → Laws (list_by mark)
list_laws mark = record {
  takes = λ last s bytes i rest small e.
      let t = item_taken mark last bytes i rest e in
      (t.rules, t.whole, IsBytes-behind (spell mark i) rest (subst IsBytes t.whole small));
  again = λ last s i rest h. item_again mark last i rest h;
}
