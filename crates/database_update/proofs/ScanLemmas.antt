-- What a scan has written, as the bytes that are pending in an output.
use Rattle.std.proofs.Common.{Bool, ◌≡◌, ℕ, List, [], ◌∷◌, length, take, refl, sym, ap, subst, ◌∙◌, append-nil, inl, inr, Option, Some, Ok, Err, IsErrOf, IsTrue, ◌⊎◌, arith}
use Rattle.std.proofs.Math.Seq.{take-length}
use Rattle.std.specs.Io.KnownBytes.{Appends}
use Rattle.path_order.specs.Stamp.{Moment}
use Rattle.std.specs.Option.{option_map}
use Rattle.loc_outside.specs.Held.{Held, begun, grown}
use Rattle.loc_outside.specs.Outside.{AppendsPart}
use Rattle.loc_outside.specs.Trees.{Dir, Dirs}
use Rattle.tree_scan.specs.declared.rules.Counts.{Counts}
use Rattle.tree_scan.specs.declared.rules.Limits.{Limits}
use Rattle.tree_scan.specs.declared.rules.ScanFault.{ScanFault}
use Rattle.tree_scan.specs.declared.rules.ScanFault.TheVariants as scan_faults
use Rattle.tree_scan.specs.Blocks.{echo_text, scan_pieces, scan_text}
use Rattle.tree_scan.specs.Plan.{Plan}
use Rattle.tree_scan.specs.Records.{Honest, Record, unvouched}
use Rattle.tree_scan.specs.Scans.{Stopped, WrotePart, usual}
use Rattle.tree_scan.specs.Stops.{CameTo, LinesFollow, StopsAt, StopsAtWide, StopsWide, Whole, WroteBlocks, WroteNone, taken}
use Rattle.tree_scan.proofs.Ends as ends
use Rattle.tree_scan.proofs.Follows.{Pieces, echoed_of, echoed_scan, written_of, written_scan}
use Rattle.database_update.specs.declared.fault.UpdateFault.{UpdateFault}
use Rattle.database_update.specs.declared.fault.UpdateFault.TheVariants as faults
use Rattle.database_update.specs.Faults.{fault_of, is_of_scan}
use Rattle.database_update.specs.Holding.{none_pending, pending_in}
use Rattle.database_update.specs.Scans.{ScanStopped}
use Rattle.database_update.proofs.HoldingLemmas.{appends_whole, pending_begun, pending_grows}

-- no record is honest by itself
pub honest_none : (dirs : Dirs) (plan : Plan) → Honest (Some []) dirs plan
honest_none dirs plan = λ r dir known tried bears. absurd (omega (arith, known.1))

-- where there is no record, none vouches
pub unvouched_all : (plan : Plan) (es : List (List ℕ × Dir)) → unvouched [] plan es ≡ es
unvouched_all plan [] = refl
unvouched_all plan (e ∷ es) = ap (λ l. e ∷ l) (unvouched_all plan es)

-- ---- the same of other bytes that grow alike

none_alike : (t t' p p' e e' : Option (List ℕ)) → ((bytes : List ℕ) → Appends t t' bytes → Appends p p' bytes) → WroteNone (taken t e) (taken t' e') → WroteNone (taken p e) (taken p' e')
none_alike t t' p p' e e' alike w = record { blocks = alike _ w.blocks; lined = w.lined }

wrote_alike : (plan : Plan) (now : Moment) (es : List (List ℕ × Dir)) (t t' p p' e e' : Option (List ℕ)) → ((bytes : List ℕ) → Appends t t' bytes → Appends p p' bytes) → WroteBlocks plan now es (taken t e) (taken t' e') → WroteBlocks plan now es (taken p e) (taken p' e')
wrote_alike plan now es t t' p p' e e' alike w = record { blocks = alike _ w.blocks; lined = w.lined }

wide_at_alike : (dirs : Dirs) (plan : Plan) (now : Moment) (limit : ℕ) (t t' p p' e e' : Option (List ℕ)) → ((bytes : List ℕ) → Appends t t' bytes → Appends p p' bytes) → StopsAtWide dirs plan now limit (taken t e) (taken t' e') → StopsAtWide dirs plan now limit (taken p e) (taken p' e')
wide_at_alike dirs plan now limit t t' p p' e e' alike s = record {
  count = s.count;
  wrote = wrote_alike plan now _ t t' p p' e e' alike s.wrote;
  wide = s.wide;
}

whole_alike : (dirs : Dirs) (plan : Plan) (now : Moment) (t t' p p' e e' : Option (List ℕ)) → ((bytes : List ℕ) → Appends t t' bytes → Appends p p' bytes) → Whole dirs plan now (taken t e) (taken t' e') → Whole dirs plan now (taken p e) (taken p' e')
whole_alike dirs plan now t t' p p' e e' alike (inl w) = inl (none_alike t t' p p' e e' alike w)
whole_alike dirs plan now t t' p p' e e' alike (inr (n, w)) = inr (n, wrote_alike plan now _ t t' p p' e e' alike w)

came_alike : (records : List Record) (limits : Limits) (dirs : Dirs) (plan : Plan) (now : Moment) (path : List ℕ) (t t' p p' e e' : Option (List ℕ)) → ((bytes : List ℕ) → Appends t t' bytes → Appends p p' bytes) → CameTo records limits dirs plan now path (taken t e) (taken t' e') → CameTo records limits dirs plan now path (taken p e) (taken p' e')
came_alike records limits dirs plan now path t t' p p' e e' alike came = record {
  candidate = came.candidate;
  wrote = wrote_alike plan now _ t t' p p' e e' alike came.wrote;
  narrow = came.narrow;
  few = came.few;
}

stop_alike : (records : List Record) (limits : Limits) (dirs : Dirs) (plan : Plan) (now : Moment) (t t' p p' e e' : Option (List ℕ)) → ((bytes : List ℕ) → Appends t t' bytes → Appends p p' bytes) → StopsAt records limits dirs plan now (taken t e) (taken t' e') → StopsAt records limits dirs plan now (taken p e) (taken p' e')
stop_alike records limits dirs plan now t t' p p' e e' alike (inl w) = inl (none_alike t t' p p' e e' alike w)
stop_alike records limits dirs plan now t t' p p' e e' alike (inr (path, came)) = inr (path, came_alike records limits dirs plan now path t t' p p' e e' alike came)

wide_alike : (records : List Record) (limits : Limits) (all : Bool) (dirs : Dirs) (plan : Plan) (now : Moment) (t t' p p' e e' : Option (List ℕ)) → ((bytes : List ℕ) → Appends t t' bytes → Appends p p' bytes) → StopsWide records limits all dirs plan now (taken t e) (taken t' e') → StopsWide records limits all dirs plan now (taken p e) (taken p' e')
wide_alike records limits all dirs plan now t t' p p' e e' alike s = record {
  path = s.path;
  came = came_alike records limits dirs plan now s.path t t' p p' e e' alike s.came;
  wide = s.wide;
  unvouched = s.unvouched;
}

follows_alike : (ps : Pieces) (t t' p p' e e' : Option (List ℕ)) → ((bytes : List ℕ) → Appends t t' bytes → Appends p p' bytes) → LinesFollow ps (taken t e) (taken t' e') → LinesFollow ps (taken p e) (taken p' e')
follows_alike ps t t' p p' e e' alike h = record {
  count = h.count;
  within = h.within;
  more = h.more;
  written = alike _ h.written;
  lined = h.lined;
}

part_alike : (dirs : Dirs) (plan : Plan) (now : Moment) (t t' p p' e e' : Option (List ℕ)) → ((bytes : List ℕ) → Appends t t' bytes → Appends p p' bytes) → WrotePart dirs plan now (taken t e) (taken t' e') → WrotePart dirs plan now (taken p e) (taken p' e')
part_alike dirs plan now t t' p p' e e' alike w = record {
  text = (w.text.0, w.text.1, alike _ w.text.2);
  lines_part = w.lines_part;
  follows = follows_alike (scan_pieces dirs plan now) t t' p p' e e' alike w.follows;
}

pub stopped_alike : (fault : ScanFault) (limits : Limits) (records : List Record) (all : Bool) (now : Moment) (dirs : Dirs) (plan : Plan) (t t' p p' e e' : Option (List ℕ)) → ((bytes : List ℕ) → Appends t t' bytes → Appends p p' bytes)
    → Stopped fault limits records all now dirs plan (taken t e) (taken t' e') → Stopped fault limits records all now dirs plan (taken p e) (taken p' e')
stopped_alike fault limits records all now dirs plan t t' p p' e e' alike s = record {
  wrote = part_alike dirs plan now t t' p p' e e' alike s.wrote;
  at = record {
    whole_tree = λ was. whole_alike dirs plan now t t' p p' e e' alike (s.at.whole_tree was);
    stops = λ was. stop_alike records limits dirs plan now t t' p p' e e' alike (s.at.stops was);
    whole_names = λ was. wide_at_alike dirs plan now limits.names t t' p p' e e' alike (s.at.whole_names was);
    stops_wide = λ was. wide_alike records limits all dirs plan now t t' p p' e e' alike (s.at.stops_wide was);
    whole_directories = λ was. wrote_alike plan now _ t t' p p' e e' alike (s.at.whole_directories was);
    stops_full = λ was. stop_alike records limits dirs plan now t t' p p' e e' alike (s.at.stops_full was);
  };
}

-- ---- a whole scan

pieces_follow : (ps : Pieces) (written echoed : List ℕ) (t t' e e' : Option (List ℕ)) → written_of ps ≡ written → echoed_of ps ≡ echoed → Appends t t' written → Appends e e' echoed → LinesFollow ps (taken t e) (taken t' e')
pieces_follow ps written echoed t t' e e' w l put lined =
    let all : take (length ps) ps ≡ ps = take-length ps in
    record {
      count = length ps;
      within = omega arith;
      more = [];
      written = subst (Appends t t') (sym (append-nil (written_of (take (length ps) ps)) ∙ ap written_of all ∙ w)) put;
      lined = subst (AppendsPart e e') (sym (ap echoed_of all ∙ l)) (appends_whole e e' e' echoed lined refl);
    }

-- where all was written and echoed, a first part was
part_whole : (dirs : Dirs) (plan : Plan) (now : Moment) (t t' e e' : Option (List ℕ)) → Appends t t' (scan_text dirs plan now) → Appends e e' (echo_text dirs plan) → WrotePart dirs plan now (taken t e) (taken t' e')
part_whole dirs plan now t t' e e' put lined = record {
  text = appends_whole t t' t' (scan_text dirs plan now) put refl;
  lines_part = appends_whole e e' e' (echo_text dirs plan) lined refl;
  follows = pieces_follow (scan_pieces dirs plan now) (scan_text dirs plan now) (echo_text dirs plan) t t' e e' (written_scan dirs plan now) (echoed_scan dirs plan now) put lined;
}

-- the same in an output in which a name was begun before
pub part_stored : (name : List ℕ) (dirs : Dirs) (plan : Plan) (now : Moment) (a b c d : Option Held) (e e' e'' : Option (List ℕ)) → b ≡ option_map (begun name) a
    → c ≡ option_map (grown (scan_text dirs plan now)) b → d ≡ c → Appends e e' (echo_text dirs plan) → e'' ≡ e' → WrotePart dirs plan now (taken (none_pending a) e) (taken (pending_in d) e'')
part_stored name dirs plan now a b c d e e' e'' start put same lined passed =
    let grows : Appends (pending_in b) (pending_in d) (scan_text dirs plan now) = pending_grows b d (scan_text dirs plan now) (same ∙ put) in
    let from : Appends (none_pending a) (pending_in d) (scan_text dirs plan now) = subst (λ (t : Option (List ℕ)). Appends t (pending_in d) (scan_text dirs plan now)) (pending_begun name a b start) grows in
    part_whole dirs plan now (none_pending a) (pending_in d) e e'' from (subst (λ (t : Option (List ℕ)). Appends e t (echo_text dirs plan)) (sym passed) lined)

-- ---- which fault of a scan it was

-- the fault of a scan that a fault of an update answers
abbrev pub scan_fault : UpdateFault → ScanFault
scan_fault (faults.BadConf line cause) = scan_faults.OutOfMemory
scan_fault (faults.BadMount line cause) = scan_faults.OutOfMemory
scan_fault (faults.ReadFault file) = scan_faults.OutOfMemory
scan_fault faults.RootMissing = scan_faults.RootMissing
scan_fault faults.TreeFault = scan_faults.TreeFault
scan_fault faults.WriteFault = scan_faults.WriteFault
scan_fault faults.TooManyNames = scan_faults.TooManyNames
scan_fault faults.TooManyDirectories = scan_faults.TooManyDirectories
scan_fault faults.OutOfMemory = scan_faults.OutOfMemory

back : (f : ScanFault) → scan_fault (fault_of f) ≡ f
back scan_faults.RootMissing = refl
back scan_faults.TreeFault = refl
back scan_faults.WriteFault = refl
back scan_faults.TooManyNames = refl
back scan_faults.TooManyDirectories = refl
back scan_faults.OutOfMemory = refl

pub same_fault : (f x : ScanFault) → fault_of f ≡ fault_of x → f ≡ x
same_fault f x e = sym (back f) ∙ ap scan_fault e ∙ back x

pub is_fault_of : (fault : UpdateFault) → IsTrue (is_of_scan fault) → fault ≡ fault_of (scan_fault fault)
is_fault_of (faults.BadConf line cause) so = absurd cc
is_fault_of (faults.BadMount line cause) so = absurd cc
is_fault_of (faults.ReadFault file) so = absurd cc
is_fault_of faults.RootMissing so = refl
is_fault_of faults.TreeFault so = refl
is_fault_of faults.WriteFault so = refl
is_fault_of faults.TooManyNames so = refl
is_fault_of faults.TooManyDirectories so = refl
is_fault_of faults.OutOfMemory so = refl

pub err_is : (f x : UpdateFault) → IsErrOf {T = Counts} {E = UpdateFault} (Err f) x → f ≡ x
err_is f x e = cc

-- ---- how far a scan came

-- the same of a scan in whose output a name was begun before, and whose lines were passed on afterwards
pub stopped_from : (f : ScanFault) (records : List Record) (all : Bool) (now : Moment) (dirs : Dirs) (plan : Plan) (t p t' e e' e'' : Option (List ℕ)) → t ≡ p → e'' ≡ e' → Stopped f usual records all now dirs plan (taken t e) (taken t' e') → Stopped f usual records all now dirs plan (taken p e) (taken t' e'')
stopped_from f records all now dirs plan t p t' e e' e'' start passed s =
    subst (λ (x : Option (List ℕ)). Stopped f usual records all now dirs plan (taken x e) (taken t' e'')) start (subst (λ (x : Option (List ℕ)). Stopped f usual records all now dirs plan (taken t e) (taken t' x)) (sym passed) s)

-- a failed write tells nothing of where the scan was
pub stopped_write : (fault : UpdateFault) (records : List Record) (all : Bool) (now : Moment) (dirs : Dirs) (plan : Plan) (t t' e e' : Option (List ℕ)) → fault ≡ faults.WriteFault → ScanStopped fault records all now dirs plan (taken t e) (taken t' e')
stopped_write fault records all now dirs plan t t' e e' is = λ f of_f.
    let same : scan_faults.WriteFault ≡ f = same_fault scan_faults.WriteFault f (sym is ∙ of_f) in
    ends.at_silent f usual records all now dirs plan (taken t e) (taken t' e') (sym (ap ends.is_silent same))

-- where the root is missing no write has failed
pub not_written : (fault : UpdateFault) → IsErrOf {T = Counts} {E = UpdateFault} (Err fault) faults.RootMissing ⊎ IsErrOf {T = Counts} {E = UpdateFault} (Err fault) faults.TreeFault → fault ≡ faults.WriteFault → ⊥
not_written fault (inl missing) was = absurd cc
not_written fault (inr failed) was = absurd cc

-- where the root is missing no scan is complete
pub not_lacking : (counts : Counts) → IsErrOf {T = Counts} {E = UpdateFault} (Ok counts) faults.RootMissing ⊎ IsErrOf {T = Counts} {E = UpdateFault} (Ok counts) faults.TreeFault → ⊥
not_lacking counts (inl missing) = absurd cc
not_lacking counts (inr failed) = absurd cc
