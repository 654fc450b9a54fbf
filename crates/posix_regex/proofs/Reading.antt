-- Reading a pattern token by token.
use Rattle.std.proofs.Common.{◌≡◌, ◌⊎◌, ℕ, zero, suc, ◌+◌, ◌-◌, ◌<◌, ◌≤◌, Bool, List, [], ◌∷◌, length, drop, Ok, Err, Result, IsOkAnd, refl, sym, ap, ◌∙◌, inl, inr, subst, ⊎_elim, arith}
use Rattle.std.proofs.Math.Seq.{drop-cons}
use Rattle.std.proofs.Math.ListN.{drop_of_length-le}
use Rattle.std.proofs.lemmas.List.{drop-drop}
use Rattle.std.proofs.lemmas.Bool.{eq-eqb, ne_eqb}
use Rattle.posix_regex.specs.declared.fault.RegexCause.{RegexCause}
use Rattle.posix_regex.specs.declared.fault.RegexCause.TheVariants.{OutOfMemory, TooDeep}
use Rattle.posix_regex.specs.declared.fault.RegexFault.{RegexFault}
use Rattle.posix_regex.specs.declared.reader.Frame.{Frame}
use Rattle.posix_regex.specs.declared.reader.Reader.{Reader}
use Rattle.posix_regex.specs.Bracket.{on_ok}
use Rattle.posix_regex.specs.Expression.{Expression}
use Rattle.posix_regex.specs.Token.{Token, Open, token_at, begins_after, bare_after}
use Rattle.posix_regex.specs.Pattern.{Group, Reading, group_at, add_token, finish, fault_at, fault_from, read_from}
use Rattle.posix_regex.specs.Reader.{StandsFor, AllStand, StandsForAll, no_memory}

pub AllStand-length : (frames : List Frame) (groups : List Group) → AllStand frames groups → length groups ≡ length frames
AllStand-length [] [] h = refl
AllStand-length [] (g ∷ gs) h = absurd h
AllStand-length (f ∷ fs) [] h = absurd h
AllStand-length (f ∷ fs) (g ∷ gs) h = omega (arith, AllStand-length fs gs h.1)

pub open-full : (place : ℕ) (read : Reading) → length read.outer ≡ 64 → add_token place Open read ≡ Err TooDeep
open-full place read full = rw (eq-eqb (length read.outer) 64 full) refl

pub open-stands : (place : ℕ) (read : Reading) (inner frame : Frame) (outer next : List Frame) → (length read.outer ≡ 64 → ⊥) → StandsFor inner (group_at place) → StandsFor frame read.inner → AllStand outer read.outer → next ≡ frame ∷ outer → IsOkAnd (add_token place Open read) (λ r. StandsForAll (record { inner = inner; outer = next }) r)
open-stands place read inner frame outer next room h g all e =
    let stand : AllStand (frame ∷ outer) (read.inner ∷ read.outer) = (g, all) in
    rw (ne_eqb (length read.outer) 64 room) (record { its_inner = h; its_outer = subst (λ l. AllStand l (read.inner ∷ read.outer)) (sym e) stand })

module _ (extended fold : Bool) where
  -- passing over bytes is dropping them
  pub read_from-skip : (place skip : ℕ) (text : List ℕ) (begins bare : Bool) (read : Reading) → read_from extended fold place skip text begins bare read ≡ read_from extended fold (place + skip) 0 (drop skip text) begins bare read
  unfolding read_from
  read_from-skip place zero [] begins bare read = refl
  read_from-skip place zero (x ∷ text) begins bare read = ap (λ p. read_from extended fold p 0 (x ∷ text) begins bare read) (omega arith)
  read_from-skip place (suc skip) [] begins bare read = refl
  read_from-skip place (suc skip) (x ∷ text) begins bare read = read_from-skip (place + 1) skip text begins bare read ∙ ap (λ p. read_from extended fold p 0 (drop skip text) begins bare read) (omega arith)

  pub read_from-nil : (place at : ℕ) (text : List ℕ) (begins bare : Bool) (read : Reading) → length text ≤ at → read_from extended fold place 0 (drop at text) begins bare read ≡ finish read.inner read.outer
  unfolding read_from
  read_from-nil place at text begins bare read past = rw (drop_of_length-le text past) refl

  module _ (place at : ℕ) (text : List ℕ) (begins bare : Bool) (read : Reading) where
    after_step : ℕ → Token → Reading → Result Expression RegexFault
    after_step n token more = read_from extended fold (place + 1) (n - 1) (drop (suc at) text) (begins_after token) (bare_after token) more

    step : at < length text → read_from extended fold place 0 (drop at text) begins bare read ≡ on_ok (fault_from place (token_at extended fold begins bare (drop at text))) (λ t. on_ok (fault_at place (add_token place t.0 read)) (λ more. after_step t.1 t.0 more))
    unfolding read_from after_step
    step within = rw (drop-cons text at 0 within) refl

    pub read_from-token : (token : Token) (n : ℕ) (more : Reading) → at < length text → token_at extended fold begins bare (drop at text) ≡ Ok (token, n) → 0 < n → add_token place token read ≡ Ok more → read_from extended fold place 0 (drop at text) begins bare read ≡ read_from extended fold (place + n) 0 (drop (at + n) text) (begins_after token) (bare_after token) more
    unfolding after_step
    read_from-token token n more within is some added =
        step within
        ∙ ap (λ r. on_ok (fault_from place r) (λ t. on_ok (fault_at place (add_token place t.0 read)) (λ m. after_step t.1 t.0 m))) is
        ∙ ap (λ r. on_ok (fault_at place r) (λ m. after_step n token m)) added
        ∙ read_from-skip (place + 1) (n - 1) (drop (suc at) text) (begins_after token) (bare_after token) more
        ∙ ap (λ p. read_from extended fold p 0 (drop (n - 1) (drop (suc at) text)) (begins_after token) (bare_after token) more) (omega arith)
        ∙ ap (λ l. read_from extended fold (place + n) 0 l (begins_after token) (bare_after token) more) (drop-drop (n - 1) (suc at) text ∙ ap (λ k. drop k text) (omega arith))

    pub read_from-bad_token : (fault : ℕ × RegexCause) → at < length text → token_at extended fold begins bare (drop at text) ≡ Err fault → read_from extended fold place 0 (drop at text) begins bare read ≡ Err (record { place = place + fault.0; cause = fault.1 })
    read_from-bad_token fault within is =
        step within
        ∙ ap (λ r. on_ok (fault_from place r) (λ t. on_ok (fault_at place (add_token place t.0 read)) (λ m. after_step t.1 t.0 m))) is

    pub read_from-refused : (token : Token) (n : ℕ) (cause : RegexCause) → at < length text → token_at extended fold begins bare (drop at text) ≡ Ok (token, n) → add_token place token read ≡ Err cause → read_from extended fold place 0 (drop at text) begins bare read ≡ Err (record { place = place; cause = cause })
    read_from-refused token n cause within is refused =
        step within
        ∙ ap (λ r. on_ok (fault_from place r) (λ t. on_ok (fault_at place (add_token place t.0 read)) (λ m. after_step t.1 t.0 m))) is
        ∙ ap (λ r. on_ok (fault_at place r) (λ m. after_step n token m)) refused

    pub read_from-adds : (whole : Result Expression RegexFault) (reader : Reader) (token : Token) (n : ℕ) → at < length text → token_at extended fold begins bare (drop at text) ≡ Ok (token, n) → 0 < n → read_from extended fold place 0 (drop at text) begins bare read ≡ whole → IsOkAnd (add_token place token read) (λ more. StandsForAll reader more)
        → (more : Reading) × StandsForAll reader more × (read_from extended fold (place + n) 0 (drop (at + n) text) (begins_after token) (bare_after token) more ≡ whole)
    read_from-adds whole reader token n within is some reads added = go (add_token place token read) refl added where
      go : (next : Result Reading RegexCause) → add_token place token read ≡ next → IsOkAnd next (λ more. StandsForAll reader more) → (more : Reading) × StandsForAll reader more × (read_from extended fold (place + n) 0 (drop (at + n) text) (begins_after token) (bare_after token) more ≡ whole)
      go (Ok more) e h = (more, h, sym (read_from-token token n more within is some e) ∙ reads)
      go (Err cause) e h = absurd h

    pub read_from-fault : (whole : Result Expression RegexFault) (token : Token) (n : ℕ) (cause : RegexCause) (fault : RegexFault) → at < length text → token_at extended fold begins bare (drop at text) ≡ Ok (token, n) → read_from extended fold place 0 (drop at text) begins bare read ≡ whole
        → (cause ≡ OutOfMemory) ⊎ (add_token place token read ≡ Err cause) → fault.cause ≡ cause → (cause ≡ OutOfMemory → fault.place ≡ 0) → (cause ≡ OutOfMemory) ⊎ (fault.place ≡ place) → (fault ≡ no_memory) ⊎ (whole ≡ Err fault)
    read_from-fault whole token n cause fault within is reads says same none there =
        let lost : cause ≡ OutOfMemory → fault ≡ no_memory = λ e. rw (← none e, ← e, ← same) refl in
        ⊎_elim
        (λ e. inl (lost e))
        (λ refused. ⊎_elim (λ e. inl (lost e)) (λ at_place. inr (sym reads ∙ read_from-refused token n cause within is refused ∙ (rw (← at_place, ← same) refl))) there)
        says
