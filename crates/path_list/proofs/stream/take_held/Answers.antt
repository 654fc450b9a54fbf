use Rattle.std.proofs.Common.{◌≡◌, ◌≢◌, ℕ, ◌+◌, ◌<◌, ◌≤◌, Bool, true, false, All, Result, Ok, Err, List, ◌∷◌, [], ◌++◌, length, take, drop, get_or, refl, sym, ap, ◌∙◌, append_assoc, length-take, arith}
use Rattle.std.specs.Result.{is_err, IsOk, OnOk}
use Rattle.std.proofs.lemmas.List.{take-append-drop, drop_more}
use Rattle.path_list.specs.Items.{IsListed, marked}
use Rattle.path_list.proofs.stream.take_held.Goals as goal

held_parts : (held : List ℕ) (n mark : ℕ) → n < length held → get_or held n 0 ≡ mark → held ≡ marked mark (take n held) ++ drop (n + 1) held
held_parts held n mark lt there =
    sym (take-append-drop n held)
    ∙ ap (λ (l : List ℕ). take n held ++ l) (drop_more held n 0 lt ∙ ap (λ (b : ℕ). b ∷ drop (n + 1) held) there)
    ∙ sym (append_assoc (take n held) (mark ∷ []) (drop (n + 1) held))

held_listed : (held : List ℕ) (n mark : ℕ) → n < length held → All (λ b. b ≢ mark) (take n held) → All (λ b. 0 < b) (take n held) → 0 < n → n ≤ 4096 → IsListed mark (take n held)
held_listed held n mark lt bare plain some fits =
    let len : length (take n held) ≡ n = omega (arith, length-take n held, lt) in
    record {
      is_path = record { some = omega (arith, len, some); fits = omega (arith, len, fits); plain = plain };
      bare = bare;
    }

from_ok : {A E : Type 0} (r : Result A E) (b : Bool) (P : Type 0) → b ≡ false → b ≡ is_err r → OnOk r P → P
from_ok (Ok x) b P off is h = h
from_ok (Err e) b P off is h = absurd (let z : true ≡ false = sym is ∙ off in cc)

is_ok_from : {A E : Type 0} (r : Result A E) (b : Bool) → b ≡ false → b ≡ is_err r → IsOk r
is_ok_from (Ok x) b off is = refl
is_ok_from (Err e) b off is = absurd (let z : true ≡ false = sym is ∙ off in cc)

pub returns-clause-took : goal.returns-clause-took
returns-clause-took c _ =
    let n = c.in-Some.len in
    let held = c.held-held.result.now in
    let e = c.in-Some.ensures in
    let fits : length c.args.path.now + length (take n held) ≤ 4096 = c.append.ensures.variant.0 (is_ok_from c.append.result _ c.if-is_err.false c.is_err.ensures.value) in
    let made : c.append.new.self ≡ c.args.path.now ++ take n held = from_ok c.append.result _ _ c.if-is_err.false c.is_err.ensures.value c.append.ensures.ok in
    let is : c.append.new.self ≡ take n held = made ∙ ap (λ (p : List ℕ). p ++ take n held) c.requires in
    let same : c.args.feed.now.held ≡ held = sym c.held-held.ensures.value in
    let rest : c.pass.new.self.held ≡ drop (n + 1) held = c.pass.ensures.held ∙ ap (drop (n + 1)) same in
    rw (is, same, rest) (
      held_listed held n c.args.mark e.mark.0 e.bare e.plain (omega (arith, c.if-len-eq0.false)) (omega (arith, fits, length-take n held, e.mark.0)),
      held_parts held n c.args.mark e.mark.0 e.mark.1,
    )
