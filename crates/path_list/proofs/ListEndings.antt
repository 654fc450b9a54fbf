-- Which rule of an item is broken, and how a list ends.
use Rattle.std.proofs.Common.{◌≡◌, ◌≢◌, ℕ, ◌+◌, ◌-◌, ◌<◌, ◌≤◌, Bool, true, false, cond, not, eqb, leb, ltb, List, [], ◌∷◌, ◌++◌, length, take, drop, Result, Ok, Err, refl, sym, ap, subst, ◌∙◌, inl, inr, append_assoc, length-append, arith}
use Rattle.std.specs.Prelude.{◌&&◌}
use Rattle.std.specs.List.{list_all}
use Rattle.std.proofs.lemmas.Bool.{lt-ltb, leb-true, leb-false, lt-leb, eqb-false}
use Rattle.std.proofs.lemmas.List.{take-append-le, take_all}
use Rattle.std.proofs.Math.Seq.{take-append-add}
use Rattle.std.proofs.lemmas.List.Elements.{All-append}
use Rattle.std.proofs.lemmas.List.Folds.{list_all-append}
use Rattle.byte_feed.specs.declared.damage.DamageCause.{DamageCause}
use Rattle.byte_feed.specs.declared.damage.DamageCause.TheVariants.{Cut, LongPath, EmptyPath, ZeroChar}
use Rattle.byte_feed.specs.declared.damage.DbFault.{DbFault}
use Rattle.byte_feed.specs.declared.damage.DbFault.TheVariants as faults
use Rattle.byte_feed.specs.declared.damage.Stop.{Stop}
use Rattle.byte_feed.specs.declared.damage.Stop.TheVariants.{NotADatabase, Broken}
use Rattle.byte_feed.specs.Field.{◌>>=◌, demand, max_path}
use Rattle.byte_feed.specs.Front.{front, readable, spelling}
use Rattle.byte_feed.specs.Endings.{Ending, end_by}
use Rattle.byte_feed.specs.Paths.{contents, rest_of}
use Rattle.path_list.specs.Items.{Item, Marked, Unmarked, path_test, marked_at, unmarked_at, item_at, list_by}
use Rattle.path_list.specs.Spelled.{EndsList}
use Rattle.path_list.proofs.ItemLaws.{Bare, Split, at_mark, no_mark, split_bytes, item_marked, item_open}

-- ---- a broken rule stays

abbrev Read : Type 0
Read = Result (Item × List ℕ) Stop

abbrev failed : Stop → Read
failed s = Err s

marked_by : (path rest rest' : List ℕ) (a b c : Bool) (s : Stop)
    → ((demand a ZeroChar >>= λ _. demand b LongPath) >>= λ _. demand c EmptyPath >>= λ _. Ok (Marked path, rest)) ≡ failed s
    → ((demand a ZeroChar >>= λ _. demand b LongPath) >>= λ _. demand c EmptyPath >>= λ _. Ok (Marked path, rest')) ≡ failed s
marked_by path rest rest' true true true s e = absurd cc
marked_by path rest rest' true true false s e = e
marked_by path rest rest' true false c s e = e
marked_by path rest rest' false b c s e = e

marked_stays : (path rest rest' : List ℕ) (s : Stop) → (path_test path >>= λ _. marked_at path rest) ≡ failed s → (path_test path >>= λ _. marked_at path rest') ≡ failed s
marked_stays path rest rest' s e = marked_by path rest rest' (list_all (ltb 0) (take (max_path + 1) path)) (leb (length path) max_path) (ltb 0 (length path)) s e

abbrev failed_test : Stop → Result (Unit {0}) Stop
failed_test s = Err s

false_and : (a b : Bool) → a ≡ false → (a && b) ≡ false
false_and a b e = rw e refl

grown_by : (path more : List ℕ) (a b : Bool) (s : Stop) → list_all (ltb 0) (take (max_path + 1) path) ≡ a → leb (length path) max_path ≡ b → (demand a ZeroChar >>= λ _. demand b LongPath) ≡ failed_test s → path_test (path ++ more) ≡ failed_test s
grown_by path more true true s all short e = absurd cc
grown_by path more true false s all short e =
    let long : max_path < length path = leb-false (length path) max_path short in
    let same : take (max_path + 1) (path ++ more) ≡ take (max_path + 1) path = take-append-le (max_path + 1) path more (omega (arith, long)) in
    let longer : leb (length (path ++ more)) max_path ≡ false = lt-leb _ _ (omega (arith, long, length-append path more)) in
    rw (same, all, longer) e
grown_by path more false true s all short e =
    let fits : length path ≤ max_path = leb-true (length path) max_path short in
    let size : max_path + 1 ≡ length path + (max_path + 1 - length path) = omega (arith, fits) in
    let front : take (max_path + 1) (path ++ more) ≡ path ++ take (max_path + 1 - length path) more = ap (λ (n : ℕ). take n (path ++ more)) size ∙ take-append-add path more (max_path + 1 - length path) in
    let none : list_all (ltb 0) path ≡ false = ap (list_all (ltb 0)) (sym (take_all (max_path + 1) path (omega (arith, fits)))) ∙ all in
    let still : list_all (ltb 0) (take (max_path + 1) (path ++ more)) ≡ false = ap (list_all (ltb 0)) front ∙ list_all-append (ltb 0) path (take (max_path + 1 - length path) more) ∙ false_and _ _ none in
    rw still e
grown_by path more false false s all short e =
    let long : max_path < length path = leb-false (length path) max_path short in
    let still : list_all (ltb 0) (take (max_path + 1) (path ++ more)) ≡ false = ap (list_all (ltb 0)) (take-append-le (max_path + 1) path more (omega (arith, long))) ∙ all in
    rw still e

-- a path that breaks a rule breaks it whatever bytes follow
test_grown : (path more : List ℕ) (s : Stop) → path_test path ≡ failed_test s → path_test (path ++ more) ≡ failed_test s
test_grown path more s e = grown_by path more (list_all (ltb 0) (take (max_path + 1) path)) (leb (length path) max_path) s refl refl e

abbrev then_read : Result (Unit {0}) Stop → Read → Read
then_read r next = r >>= λ _. next

err_then : (r : Result (Unit {0}) Stop) (next : Read) (s : Stop) → r ≡ failed_test s → then_read r next ≡ failed s
err_then r next s e = ap (λ (x : Result (Unit {0}) Stop). then_read x next) e

abbrev stop_or : Read → Stop
stop_or (Ok x) = NotADatabase
stop_or (Err s) = s

abbrev cause_by : Stop → DamageCause
cause_by NotADatabase = Cut
cause_by (Broken cause) = cause

abbrev cause_or : Read → DamageCause
cause_or r = cause_by (stop_or r)

test_failed : (r : Result (Unit {0}) Stop) (cause : DamageCause) → (cause ≡ Cut → ⊥) → then_read r (Err (Broken Cut)) ≡ failed (Broken cause) → r ≡ failed_test (Broken cause)
test_failed (Ok u) cause other e = absurd (other (sym (ap cause_or e)))
test_failed (Err s) cause other e = ap failed_test (ap stop_or e)

pub stays_open : (mark : ℕ) (last : Bool) (bytes more : List ℕ) (s : Stop) → Bare mark bytes → path_test bytes ≡ failed_test s → Split mark more → item_at mark last (bytes ++ more) ≡ failed s
stays_open mark last bytes more s bare e (at_mark path rest whole bare') =
    ap (λ (m : List ℕ). item_at mark last (bytes ++ m)) whole ∙ ap (item_at mark last) (sym (append_assoc bytes path (mark ∷ rest)))
    ∙ item_marked mark last (bytes ++ path) rest (All-append (λ b. b ≢ mark) bytes path bare bare')
    ∙ err_then (path_test (bytes ++ path)) (marked_at (bytes ++ path) rest) s (test_grown bytes path s e)
stays_open mark last bytes more s bare e (no_mark bare') =
    item_open mark last (bytes ++ more) (All-append (λ b. b ≢ mark) bytes more bare bare') ∙ err_then (path_test (bytes ++ more)) (unmarked_at last (bytes ++ more)) s (test_grown bytes more s e)

stays_by : (mark : ℕ) (last : Bool) (bytes more : List ℕ) (cause : DamageCause) → (cause ≡ Cut → ⊥) → Split mark bytes → item_at mark false bytes ≡ failed (Broken cause) → item_at mark last (bytes ++ more) ≡ failed (Broken cause)
stays_by mark last bytes more cause other (at_mark path rest whole bare) e =
    let read = sym (item_marked mark false path rest bare) ∙ ap (item_at mark false) (sym whole) ∙ e in
    ap (λ (b : List ℕ). item_at mark last (b ++ more)) whole ∙ ap (item_at mark last) (append_assoc path (mark ∷ rest) more)
    ∙ item_marked mark last path (rest ++ more) bare ∙ marked_stays path rest (rest ++ more) (Broken cause) read
stays_by mark last bytes more cause other (no_mark bare) e =
    stays_open mark last bytes more (Broken cause) bare (test_failed (path_test bytes) cause other (sym (item_open mark false bytes bare) ∙ e)) (split_bytes mark more)

pub item_stays : (mark : ℕ) (last : Bool) (bytes more : List ℕ) (cause : DamageCause) → (cause ≡ Cut → ⊥) → item_at mark false bytes ≡ failed (Broken cause) → item_at mark last (bytes ++ more) ≡ failed (Broken cause)
item_stays mark last bytes more cause other e = stays_by mark last bytes more cause other (split_bytes mark bytes) e

-- ---- how a list ends

-- a rule of a list is broken, or a byte past the last one is asked for that may still come
abbrev StopsBy : Bool → Stop → Type 0
StopsBy last (Broken Cut) = last ≡ false
StopsBy last (Broken EmptyPath) = Unit {0}
StopsBy last (Broken LongPath) = Unit {0}
StopsBy last (Broken ZeroChar) = Unit {0}
StopsBy last s = ⊥

abbrev StopsRead : Bool → Read → Type 0
StopsRead last (Ok x) = Unit {0}
StopsRead last (Err s) = StopsBy last s

marked_stop : (path rest : List ℕ) (last a b c : Bool) → StopsRead last ((demand a ZeroChar >>= λ _. demand b LongPath) >>= λ _. demand c EmptyPath >>= λ _. Ok (Marked path, rest))
marked_stop path rest last true true true = tt
marked_stop path rest last true true false = tt
marked_stop path rest last true false c = tt
marked_stop path rest last false b c = tt

open_stop : (bytes : List ℕ) (last a b c : Bool) → c ≡ true → StopsRead last ((demand a ZeroChar >>= λ _. demand b LongPath) >>= λ _. cond (last && c) (Ok (Unmarked bytes, [])) (Err (Broken Cut)))
open_stop bytes true true true true is = tt
open_stop bytes true true true false is = absurd cc
open_stop bytes false true true c is = refl
open_stop bytes last true false c is = tt
open_stop bytes last false b c is = tt

stop_by : (mark : ℕ) (last : Bool) (bytes : List ℕ) → 0 < length bytes → Split mark bytes → StopsRead last (item_at mark last bytes)
stop_by mark last bytes some (at_mark path rest whole bare) =
    subst (StopsRead last) (sym (item_marked mark last path rest bare) ∙ ap (item_at mark last) (sym whole)) (marked_stop path rest last (list_all (ltb 0) (take (max_path + 1) path)) (leb (length path) max_path) (ltb 0 (length path)))
stop_by mark last bytes some (no_mark bare) =
    subst (StopsRead last) (sym (item_open mark last bytes bare)) (open_stop bytes last (list_all (ltb 0) (take (max_path + 1) bytes)) (leb (length bytes) max_path) (ltb 0 (length bytes)) (lt-ltb 0 (length bytes) some))

item_stop : (mark : ℕ) (last : Bool) (bytes : List ℕ) → 0 < length bytes → StopsRead last (item_at mark last bytes)
item_stop mark last bytes some = stop_by mark last bytes some (split_bytes mark bytes)

abbrev ended : DbFault → Ending
ended fault = Err fault

abbrev fault_or : Ending → DbFault
fault_or (Ok x) = faults.TooLarge
fault_or (Err fault) = fault

ends_fault : (place : ℕ) (more : Bool) (r : Read) (fault : DbFault) → StopsRead (not more) r → end_by place more r ≡ ended fault → EndsList fault
ends_fault place more (Ok x) fault h e = absurd cc
ends_fault place true (Err (Broken Cut)) fault h e = subst EndsList (ap fault_or e) tt
ends_fault place more (Err (Broken EmptyPath)) fault h e = subst EndsList (ap fault_or e) (inl refl)
ends_fault place more (Err (Broken LongPath)) fault h e = subst EndsList (ap fault_or e) (inr (inl refl))
ends_fault place more (Err (Broken ZeroChar)) fault h e = subst EndsList (ap fault_or e) (inr (inr refl))
ends_fault place false (Err (Broken Cut)) fault h e = absurd cc
ends_fault place more (Err s) fault h e = absurd h

above : (n : ℕ) → (n ≡ 0 → ⊥) → 0 < n
above n apart = omega arith

end_by_test : (mark place : ℕ) (more none : Bool) (bytes : List ℕ) (fault : DbFault) → eqb (length bytes) 0 ≡ none → cond none (cond more (ended faults.TooLarge) (Ok tt)) (end_by place more (item_at mark (not more) bytes)) ≡ ended fault → EndsList fault
end_by_test mark place true true bytes fault is e = subst EndsList (ap fault_or e) tt
end_by_test mark place false true bytes fault is e = absurd cc
end_by_test mark place more false bytes fault is e = ends_fault place more (item_at mark (not more) bytes) fault (item_stop mark (not more) bytes (above (length bytes) (eqb-false (length bytes) 0 is))) e

pub list_ends : (mark : ℕ) (file : List ℕ) (fault : DbFault) → (contents (list_by mark) file).ending ≡ ended fault → EndsList fault
unfolding rest_of
list_ends mark file fault e =
    let w = readable file in
    let len : ℕ = length (spelling (list_by mark) (front (list_by mark) file)) in
    end_by_test mark (0 + len) w.more (eqb (length (drop len w.bytes)) 0) (drop len w.bytes) fault refl e
