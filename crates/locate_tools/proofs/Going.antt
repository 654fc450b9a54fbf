-- Databases that are tried one after another.
use Rattle.std.proofs.Common.{◌≡◌, ℕ, ◌+◌, ◌<◌, ◌≤◌, ◌^◌, Bool, true, false, List, [], ◌∷◌, ◌++◌, length, drop, map, get_or, MatchBool, codes, if◌then◌else◌, Option, refl, sym, ap, subst, ◌∙◌, append_assoc, arith}
use Rattle.std.proofs.lemmas.List.{drop-map, drop_more, append-nil, length-map}
use Rattle.std.proofs.KnownBytes.{Appends-trans}
use Rattle.loc_outside.specs.Outside.{AppendsPart}
use Rattle.loc_outside.proofs.PartTaken.{part_first, part_second}
use Rattle.locate_engine.specs.declared.outcome.Outcome.{Outcome}
use Rattle.locate_tools.specs.Standing.{Standing, Goes, IsComplete, ends_run}
use Rattle.locate_engine.specs.declared.query.Query.{Query}
use Rattle.locate_engine.specs.Sought.{Sought}
use Rattle.locate_tools.specs.LocateExact.{work_by}
use Rattle.locate_tools.specs.Tried.{Tried, work_for}
use Rattle.locate_tools.specs.declared.databases.Work.{Work as WorkAsked}
use Rattle.locate_tools.specs.Work.{Work, Search, Statistics}
use Rattle.locate_tools.specs.Told.{TellsAs, outcome_messages, messages}
use Rattle.locate_tools.specs.Messages.{outcome_message}

-- the name at a place is the first of those that are left
pub name_at : {X : Type 0} (f : X → List ℕ) (xs : List X) (i : ℕ) (d : X) → i < length xs → drop i (map f xs) ≡ f (get_or xs i d) ∷ map f (drop (i + 1) xs)
name_at f xs i d h = drop-map f i xs ∙ ap (map f) (drop_more xs i d h)

-- one more database
pub goes_more : (one : List ℕ → Standing → Outcome → Standing → Type 0) (names : List (List ℕ)) (os : List Outcome) (s s' t : Standing) (name : List ℕ) (rest : List (List ℕ)) (o : Outcome)
    → drop (length os) names ≡ name ∷ rest → Goes one names os s s' → one name s' o t → Goes one names (os ++ o ∷ []) s t
goes_more one [] [] s s' t name rest o is goes this = absurd cc
goes_more one (n ∷ ns) [] s s' t name rest o is goes this =
    let same : n ≡ name = cc in
    (t, subst (λ (x : List ℕ). one x s o t) (sym same) (subst (λ (u : Standing). one name u o t) (sym goes) this), refl)
goes_more one [] (p ∷ os) s s' t name rest o is goes this = absurd goes
goes_more one (n ∷ ns) (p ∷ os) s s' t name rest o is goes this =
    (goes.0, goes.1, goes_more one ns os goes.0 s' t name rest o is goes.2 this)

-- no outcome ends the run
abbrev pub GoOn : List Outcome → Type 0
GoOn [] = Unit {0}
GoOn (o ∷ os) = (ends_run o ≡ false) × GoOn os

pub on_more : (os : List Outcome) (o : Outcome) → GoOn os → ends_run o ≡ false → GoOn (os ++ o ∷ [])
on_more [] o on e = (e, tt)
on_more (p ∷ os) o on e = (on.0, on_more os o on.1 e)

whole_here : (o : Outcome) (os : List Outcome) (P : Type 0) → ends_run o ≡ true → os ≡ [] → MatchBool (ends_run o) (os ≡ []) P
whole_here o os P e none = subst (λ (b : Bool). MatchBool b (os ≡ []) P) (sym e) none

whole_after : (o : Outcome) (os : List Outcome) (P : Type 0) → ends_run o ≡ false → P → MatchBool (ends_run o) (os ≡ []) P
whole_after o os P e rest = subst (λ (b : Bool). MatchBool b (os ≡ []) P) (sym e) rest

-- all databases were tried
pub complete_all : (names : List (List ℕ)) (os : List Outcome) → GoOn os → length os ≡ length names → IsComplete names os
complete_all [] [] on same = tt
complete_all [] (o ∷ os) on same = absurd (omega arith)
complete_all (n ∷ ns) [] on same = absurd (omega arith)
complete_all (n ∷ ns) (o ∷ os) on same = whole_after o os (IsComplete ns os) on.0 (complete_all ns os on.1 (omega arith))

-- the last one ends the run
pub complete_end : (names : List (List ℕ)) (os : List Outcome) (name : List ℕ) (rest : List (List ℕ)) (o : Outcome) → drop (length os) names ≡ name ∷ rest → GoOn os → ends_run o ≡ true → IsComplete names (os ++ o ∷ [])
complete_end [] [] name rest o is on e = absurd cc
complete_end [] (p ∷ os) name rest o is on e = absurd cc
complete_end (n ∷ ns) [] name rest o is on e = whole_here o [] (IsComplete ns []) e refl
complete_end (n ∷ ns) (p ∷ os) name rest o is on e =
    whole_after p (os ++ o ∷ []) (IsComplete ns (os ++ o ∷ [])) on.0 (complete_end ns os name rest o is on.1 e)

-- the messages of one more database
more_messages : (names : List (List ℕ)) (os : List Outcome) (name : List ℕ) (rest : List (List ℕ)) (o : Outcome) → drop (length os) names ≡ name ∷ rest
    → outcome_messages names (os ++ o ∷ []) ≡ outcome_messages names os ++ outcome_message (codes "locate") name o
more_messages [] [] name rest o is = absurd cc
more_messages [] (p ∷ os) name rest o is = absurd cc
more_messages (n ∷ ns) [] name rest o is =
    let same : n ≡ name = cc in
    append-nil (outcome_message (codes "locate") n o) ∙ ap (λ (x : List ℕ). outcome_message (codes "locate") x o) same
more_messages (n ∷ ns) (p ∷ os) name rest o is =
    ap (λ (x : List ℕ). outcome_message (codes "locate") n p ++ x) (more_messages ns os name rest o is)
    ∙ sym (append_assoc (outcome_message (codes "locate") n p) (outcome_messages ns os) (outcome_message (codes "locate") name o))

pub messages_more : (quiet : Bool) (names : List (List ℕ)) (os : List Outcome) (name : List ℕ) (rest : List (List ℕ)) (o : Outcome) → drop (length os) names ≡ name ∷ rest
    → messages quiet names (os ++ o ∷ []) ≡ messages quiet names os ++ (if quiet then [] else outcome_message (codes "locate") name o)
messages_more true names os name rest o is = refl
messages_more false names os name rest o is = more_messages names os name rest o is

-- Once a write has failed, a first part was told of all that is still to be told.
pub tells_on : (failed failed' : Bool) (a b c : ℕ) (u v w : Option (List ℕ)) (text more : List ℕ) → a ≤ b → b ≤ c
    → TellsAs failed a b u v text
    → (failed ≡ false → TellsAs failed' b c v w more)
    → (failed ≡ true → (failed' ≡ true) × (w ≡ v))
    → TellsAs failed' a c u w (text ++ more)
tells_on true failed' a b c u v w text more first le told next silent =
    subst (λ (f : Bool). TellsAs f a c u w (text ++ more)) (sym (silent refl).0)
    (omega (arith, told.0), subst (λ (x : Option (List ℕ)). AppendsPart u x (text ++ more)) (sym (silent refl).1) (part_first u v text more told.1))
tells_on false true a b c u v w text more first le told next silent =
    let here = next refl in
    (omega (arith, here.0, first), part_second u v w text more told here.1)
tells_on false false a b c u v w text more first le told next silent =
    Appends-trans u v w text more told (next refl)

-- ---- over the names of a run

-- one more database, by its place among the names
pub goes_next : {X : Type 0} (now : X → List ℕ) (xs : List X) (i : ℕ) (d : X) (work : Work) (query : Query) (os : List Outcome) (s s' u : Standing) (o : Outcome) (more : List Outcome)
    → i < length xs → length os ≡ i → more ≡ os ++ o ∷ [] → Goes (Tried work query) (map now xs) os s s' → Tried work query (now (get_or xs i d)) s' o u
    → Goes (Tried work query) (map now xs) more s u
goes_next now xs i d work query os s s' u o more lt len is goes this =
    let here : drop (length os) (map now xs) ≡ now (get_or xs i d) ∷ map now (drop (i + 1) xs) = ap (λ (k : ℕ). drop k (map now xs)) len ∙ name_at now xs i d lt in
    subst (λ (l : List Outcome). Goes (Tried work query) (map now xs) l s u) (sym is)
    (goes_more (Tried work query) (map now xs) os s s' u (now (get_or xs i d)) (map now (drop (i + 1) xs)) o here goes this)

pub complete_next : {X : Type 0} (now : X → List ℕ) (xs : List X) (i : ℕ) (os : List Outcome) (o : Outcome) (more : List Outcome)
    → i < length xs → length os ≡ i → more ≡ os ++ o ∷ [] → GoOn os → ends_run o ≡ true → IsComplete (map now xs) more
complete_next now xs i os o more lt len is on ends =
    let some : i < length (map now xs) = omega (arith, lt, length-map xs now) in
    let here : drop (length os) (map now xs) ≡ get_or (map now xs) i [] ∷ drop (i + 1) (map now xs) = ap (λ (k : ℕ). drop k (map now xs)) len ∙ drop_more (map now xs) i [] some in
    subst (λ (l : List Outcome). IsComplete (map now xs) l) (sym is) (complete_end (map now xs) os (get_or (map now xs) i []) (drop (i + 1) (map now xs)) o here on ends)

pub on_next : (os : List Outcome) (o : Outcome) (more : List Outcome) → more ≡ os ++ o ∷ [] → GoOn os → ends_run o ≡ false → GoOn more
on_next os o more is on e = subst (λ (l : List Outcome). GoOn l) (sym is) (on_more os o on e)

pub tells_next : {X : Type 0} (now : X → List ℕ) (xs : List X) (i : ℕ) (d : X) (quiet : Bool) (os : List Outcome) (o : Outcome) (more : List Outcome) (failed failed' : Bool) (a b c : ℕ) (u v w : Option (List ℕ))
    → i < length xs → length os ≡ i → more ≡ os ++ o ∷ [] → a ≤ b → b ≤ c
    → TellsAs failed a b u v (messages quiet (map now xs) os)
    → (failed ≡ false → TellsAs failed' b c v w (if quiet then [] else outcome_message (codes "locate") (now (get_or xs i d)) o))
    → (failed ≡ true → (failed' ≡ true) × (w ≡ v))
    → TellsAs failed' a c u w (messages quiet (map now xs) more)
tells_next now xs i d quiet os o more failed failed' a b c u v w lt len is first le told next silent =
    let here : drop (length os) (map now xs) ≡ now (get_or xs i d) ∷ map now (drop (i + 1) xs) = ap (λ (k : ℕ). drop k (map now xs)) len ∙ name_at now xs i d lt in
    let text : messages quiet (map now xs) more ≡ messages quiet (map now xs) os ++ (if quiet then [] else outcome_message (codes "locate") (now (get_or xs i d)) o) =
    ap (messages quiet (map now xs)) is ∙ messages_more quiet (map now xs) os (now (get_or xs i d)) (map now (drop (i + 1) xs)) o here in
    subst (λ (x : List ℕ). TellsAs failed' a c u w x) (sym text)
    (tells_on failed failed' a b c u v w (messages quiet (map now xs) os) _ first le told next silent)

-- the end of what is told
pub tells_end : (failed : Bool) (a b : ℕ) (u v w : Option (List ℕ)) (text more : List ℕ) → TellsAs failed a b u v text → (failed ≡ false → AppendsPart v w more) → (failed ≡ true → w ≡ v) → AppendsPart u w (text ++ more)
tells_end true a b u v w text more told last silent = subst (λ (x : Option (List ℕ)). AppendsPart u x (text ++ more)) (sym (silent refl)) (part_first u v text more told.1)
tells_end false a b u v w text more told last silent = part_second u v w text more told (last refl)

-- what was done with one database, by a matcher that looks for the same as before
pub tried_as : (statistics : Bool) (work : WorkAsked) (sought sought' : Sought) (query : Query) (name : List ℕ) (s : Standing) (o : Outcome) (t : Standing) → ((k : Sought) → work_for work k ≡ work_by statistics k) → sought' ≡ sought
    → Tried (work_for work sought') query name s o t → Tried (work_by statistics sought) query name s o t
tried_as statistics work sought sought' query name s o t value same tried =
    subst (λ (k : Sought). Tried (work_by statistics k) query name s o t) same (subst (λ (w : Work). Tried w query name s o t) (value sought') tried)

pub matched_next : (work : Work) (query : Query) (name : List ℕ) (s : Standing) (o : Outcome) (t : Standing) → Tried work query name s o t → t.matched ≤ s.matched + 2 ^ 40
matched_next Statistics query name s o t tried = tried.moves.matched_within
matched_next (Search sought) query name s o t tried = tried.answers.moves.matched_within
