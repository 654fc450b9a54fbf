-- What is counted of a list of databases where no call fails.
use Rattle.std.specs.Prelude.{IfSome}
use Rattle.std.proofs.Common.{◌≡◌, ℕ, ◌-◌, ◌≤◌, ◌^◌, Bool, false, List, [], ◌∷◌, Option, Some, None, MatchBool, if◌then◌else◌, map, refl, sym, ap, subst, ◌∙◌, inl, inr}
use Rattle.std.proofs.KnownBytes.{Appends-trans, Appends-nil}
use Rattle.std.specs.List.{flat_map}
use Rattle.std.specs.FinMap.{get}
use Rattle.std.specs.Io.KnownBytes.{Appends}
use Rattle.loc_outside.specs.Files.{Files}
use Rattle.byte_feed.specs.Paths.{ToCome}
use Rattle.any_db.specs.Formats.{contents, contents_of_part}
use Rattle.locate_engine.specs.Searched.{is_read_fault, outcome_of, seen_in}
use Rattle.locate_engine.specs.Statistics.{Counts, stats_after, stats_of}
use Rattle.locate_engine.specs.declared.counting.Stats.{Stats}
use Rattle.locate_engine.specs.declared.outcome.Outcome.{Outcome}
use Rattle.locate_engine.specs.declared.outcome.Outcome.TheVariants as outcomes
use Rattle.locate_tools.specs.Standing.{Standing, Goes, IsComplete, ends_run}
use Rattle.locate_tools.specs.Tried.{EndsAs, IsMissingOrFailed, Moves, NoneFailed, TriedCount, WritesAs, text_after}
use Rattle.locate_tools.specs.LocateExact.{ending_in}
use Rattle.locate_tools.specs.Counted.{statistics_at, statistics_in}
use Rattle.locate_tools.proofs.Finding.{Later, ending_on, goes_later, moves_later, none_first, none_second, unread_missing}

-- What one database gives.
pub record Gives (text : List ℕ) (ending : Outcome) (s : Standing) (o : Outcome) (s' : Standing) : Type 0 where
  pub writes : Appends s.taken s'.taken text
  pub ends : o ≡ ending

not_read : (o : Outcome) → (o ≡ outcomes.ReadFault → ⊥) → is_read_fault o ≡ false
not_read outcomes.ReadFault other = absurd (other refl)
not_read outcomes.Whole other = refl
not_read outcomes.Missing other = refl
not_read outcomes.NotADatabase other = refl
not_read (outcomes.Damage d) other = refl
not_read outcomes.GateFault other = refl
not_read outcomes.TooLarge other = refl
not_read outcomes.LimitReached other = refl
not_read outcomes.WriteFault other = refl

written : (o : Outcome) (u v : Option (List ℕ)) (text : List ℕ) → (o ≡ outcomes.WriteFault → ⊥) → WritesAs o u v text → Appends u v text
written outcomes.WriteFault u v text other w = absurd (other refl)
written outcomes.Whole u v text other w = w
written outcomes.Missing u v text other w = w
written outcomes.NotADatabase u v text other w = w
written (outcomes.Damage d) u v text other w = w
written outcomes.ReadFault u v text other w = w
written outcomes.GateFault u v text other w = w
written outcomes.TooLarge u v text other w = w
written outcomes.LimitReached u v text other w = w

same_end : (ended o : Outcome) → (o ≡ outcomes.WriteFault → ⊥) → EndsAs ended o → ended ≡ o
same_end ended o other (inl e) = sym e
same_end ended o other (inr e) = absurd (other e)

gives_in : (there : Option (List ℕ)) (name : List ℕ) (s : Standing) (o : Outcome) (s' : Standing) (ended : Outcome) (stats : Stats) → Moves s o s' → NoneFailed s s' → (there ≡ None → IsMissingOrFailed o) → EndsAs ended o
    → IfSome there (λ file. (ended ≡ outcomes.ReadFault → s.given ≤ 2 ^ 63) → Counts (seen_in file (s'.given - s.given) ended) stats ended) → WritesAs o s.taken s'.taken (text_after ended name stats)
    → Gives (statistics_in name there) (ending_in there) s o s'
gives_in None name s o s' ended stats moves none absent ends counted writes =
    let missing : o ≡ outcomes.Missing = unread_missing o (absent refl) (λ e. none.0 (moves.read_fault e)) (λ e. none.2 (moves.write_fault e)) in
    let no_write : o ≡ outcomes.WriteFault → ⊥ = λ e. none.2 (moves.write_fault e) in
    let is : ended ≡ outcomes.Missing = same_end ended o no_write ends ∙ missing in
    record {
      writes = subst (λ (x : Outcome). Appends s.taken s'.taken (text_after x name stats)) is (written o s.taken s'.taken (text_after ended name stats) no_write writes);
      ends = missing;
    }
gives_in (Some file) name s o s' ended stats moves none absent ends counted writes =
    let no_write : o ≡ outcomes.WriteFault → ⊥ = λ e. none.2 (moves.write_fault e) in
    let is : ended ≡ o = same_end ended o no_write ends in
    let no_read : ended ≡ outcomes.ReadFault → ⊥ = λ e. none.0 (moves.read_fault (sym is ∙ e)) in
    let told = counted (λ e. absurd (no_read e)) in
    let clean : is_read_fault ended ≡ false = not_read ended no_read in
    let seen : seen_in file (s'.given - s.given) ended ≡ contents file = ap (λ (b : Bool). if b then contents_of_part (s'.given - s.given) file else contents file) clean in
    let finish : ended ≡ outcome_of (contents file).ending = told.ends clean ∙ ap (λ (t : ToCome). outcome_of t.ending) seen in
    let counts : stats ≡ stats_after (outcome_of (contents file).ending) (stats_of (contents file)) =
    told.counts ∙ ap (λ (t : ToCome). stats_after ended (stats_of t)) seen ∙ ap (λ (x : Outcome). stats_after x (stats_of (contents file))) finish in
    let text : text_after ended name stats ≡ statistics_in name (Some file) =
    ap (λ (x : Outcome). text_after x name stats) finish ∙ ap (λ (x : Stats). text_after (outcome_of (contents file).ending) name x) counts in
    record { writes = subst (λ (x : List ℕ). Appends s.taken s'.taken x) text (written o s.taken s'.taken (text_after ended name stats) no_write writes); ends = sym is ∙ finish }

-- What a list of databases gives.
pub record GivesAll (files : Files) (names : List (List ℕ)) (s : Standing) (os : List Outcome) (s' : Standing) : Type 0 where
  pub writes : Appends s.taken s'.taken (flat_map (statistics_at files) names)
  pub ends : os ≡ map (λ name. ending_in (get files name)) names

gives_none : (files : Files) (s s' : Standing) → s ≡ s' → GivesAll files [] s [] s'
gives_none files s s' same = subst (λ (t : Standing). GivesAll files [] s [] t) same (record { writes = Appends-nil s.taken; ends = refl })

pub goes_gives : (files : Files) (names : List (List ℕ)) (os : List Outcome) (s s' : Standing) → s.files ≡ Some files
    → Goes TriedCount names os s s' → IsComplete names os → NoneFailed s s' → GivesAll files names s os s'
goes_gives files [] [] s s' told goes complete none = gives_none files s s' goes
goes_gives files [] (o ∷ os) s s' told goes complete none = absurd goes
goes_gives files (n ∷ ns) [] s s' told goes complete none = absurd complete
goes_gives files (n ∷ ns) (o ∷ os) s s' told goes complete none =
    let t = goes.0 in
    let tried = goes.1 in
    let here : Later s t = moves_later s o t tried.moves in
    let rest : Later t s' = goes_later TriedCount ns os t s' (λ name a p b done. moves_later a p b done.moves) goes.2 in
    let one = gives_in (get files n) n s o t tried.counted.ended tried.counted.stats tried.moves (none_first s t s' rest none)
    (subst (λ (known : Option Files). IfSome known (λ files. get files n ≡ None → IsMissingOrFailed o)) told tried.absent) tried.counted.ends
    (subst (λ (known : Option Files). IfSome known (λ files. IfSome (get files n) (λ file. (tried.counted.ended ≡ outcomes.ReadFault → s.given ≤ 2 ^ 63) → Counts (seen_in file (t.given - s.given) tried.counted.ended) tried.counted.stats tried.counted.ended))) told tried.counted.counts)
    tried.counted.writes in
    let on : ends_run o ≡ false = ap ends_run one.ends ∙ ending_on (get files n) in
    let more : IsComplete ns os = subst (λ (b : Bool). MatchBool b (os ≡ []) (IsComplete ns os)) on complete in
    let others = goes_gives files ns os t s' (tried.moves.files ∙ told) goes.2 more (none_second s t s' here none) in
    record {
      writes = Appends-trans s.taken t.taken s'.taken _ _ one.writes others.writes;
      ends = ap (λ (x : Outcome). x ∷ os) one.ends ∙ ap (λ (x : List Outcome). ending_in (get files n) ∷ x) others.ends;
    }
