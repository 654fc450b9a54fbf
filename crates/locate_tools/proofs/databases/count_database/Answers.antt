use Rattle.std.proofs.Common.{inl, inr, refl, arith}
use Rattle.std.specs.FinMap.{get}
use Rattle.locate_engine.specs.declared.outcome.Outcome.TheVariants as outcomes
use Rattle.locate_engine.proofs.Told.{if_each}
use Rattle.locate_tools.proofs.Counting.{absent_in, counts_in, missing_in, none_in, reads_in, reads_no_gate, reads_no_write, writes_whole}
use Rattle.locate_tools.proofs.Searching.{as_ended}
use Rattle.locate_tools.proofs.databases.count_database.Goals as goal

pub returns-in-Ok-clause-counted : goal.returns-in-Ok-clause-counted
returns-in-Ok-clause-counted g c =
    let r = c.statistics-ended.result in
    let said = c.statistics-ended.ensures in
    record {
      ended = r.1;
      stats = r.0;
      ends = inl refl;
      read_fault = said.reads.fault;
      counts = if_each (g.R.Reader.files c.args.reader.now) _ _ (λ files found. counts_in (get files c.args.name.now) _ _ r.0 r.1 found) said.counts;
      absent = if_each (g.R.Reader.files c.args.reader.now) _ _ (λ files found. none_in (get files c.args.name.now) _ _ r.0 r.1 found) said.counts;
      writes = writes_whole r.1 _ _ _ c.in-Ok.ensures.ok;
    }

pub returns-in-Ok-clause-moves : goal.returns-in-Ok-clause-moves
returns-in-Ok-clause-moves g c =
    let r = c.statistics-ended.result in
    let said = c.statistics-ended.ensures in
    record {
      files = said.files;
      tests = refl;
      given = said.reads.gives;
      given_within = said.reads.within;
      matched = omega arith;
      matched_within = omega arith;
      reads = said.reads.later;
      gate = omega arith;
      writes = c.in-Ok.ensures.cause.later;
      read_fault = λ e. said.reads.fault (as_ended r.1 _ outcomes.ReadFault (inl refl) e (λ x. absurd cc));
      gate_fault = λ e. absurd (reads_no_gate r.1 said.reading (as_ended r.1 _ outcomes.GateFault (inl refl) e (λ x. absurd cc)));
      write_fault = λ e. absurd (reads_no_write r.1 said.reading e);
      passed_on = λ _. c.in-Ok.ensures.passed_on;
    }

pub returns-in-Ok-clause-reads : goal.returns-in-Ok-clause-reads
returns-in-Ok-clause-reads g c =
    let r = c.statistics-ended.result in
    if_each (g.R.Reader.files c.args.reader.now) _ _ (λ files found. reads_in (get files c.args.name.now) _ _ r.0 r.1 _ (inl refl) found) c.statistics-ended.ensures.counts

pub returns-in-Ok-clause-missing : goal.returns-in-Ok-clause-missing
returns-in-Ok-clause-missing g c =
    let r = c.statistics-ended.result in
    if_each (g.R.Reader.files c.args.reader.now) _ _ (λ files found is. missing_in (get files c.args.name.now) _ _ r.0 r.1 _ (inl refl) found is) c.statistics-ended.ensures.counts

pub returns-in-Ok-clause-absent : goal.returns-in-Ok-clause-absent
returns-in-Ok-clause-absent g c =
    let r = c.statistics-ended.result in
    if_each (g.R.Reader.files c.args.reader.now) _ _ (λ files found none. absent_in (get files c.args.name.now) _ _ r.0 r.1 _ (inl refl) found none) c.statistics-ended.ensures.counts

pub returns-in-Err-clause-counted : goal.returns-in-Err-clause-counted
returns-in-Err-clause-counted g c =
    let r = c.statistics-ended.result in
    let said = c.statistics-ended.ensures in
    record {
      ended = r.1;
      stats = r.0;
      ends = inr refl;
      read_fault = said.reads.fault;
      counts = if_each (g.R.Reader.files c.args.reader.now) _ _ (λ files found. counts_in (get files c.args.name.now) _ _ r.0 r.1 found) said.counts;
      absent = if_each (g.R.Reader.files c.args.reader.now) _ _ (λ files found. none_in (get files c.args.name.now) _ _ r.0 r.1 found) said.counts;
      writes = c.in-Err.ensures.part;
    }

pub returns-in-Err-clause-moves : goal.returns-in-Err-clause-moves
returns-in-Err-clause-moves g c =
    let r = c.statistics-ended.result in
    let said = c.statistics-ended.ensures in
    record {
      files = said.files;
      tests = refl;
      given = said.reads.gives;
      given_within = said.reads.within;
      matched = omega arith;
      matched_within = omega arith;
      reads = said.reads.later;
      gate = omega arith;
      writes = c.in-Err.ensures.cause.later;
      read_fault = λ e. said.reads.fault (as_ended r.1 _ outcomes.ReadFault (inr refl) e (λ x. absurd cc));
      gate_fault = λ e. absurd (reads_no_gate r.1 said.reading (as_ended r.1 _ outcomes.GateFault (inr refl) e (λ x. absurd cc)));
      write_fault = λ _. c.in-Err.ensures.cause.failed;
      passed_on = λ other. absurd (other refl);
    }

pub returns-in-Err-clause-reads : goal.returns-in-Err-clause-reads
returns-in-Err-clause-reads g c =
    let r = c.statistics-ended.result in
    if_each (g.R.Reader.files c.args.reader.now) _ _ (λ files found. reads_in (get files c.args.name.now) _ _ r.0 r.1 _ (inr refl) found) c.statistics-ended.ensures.counts

pub returns-in-Err-clause-missing : goal.returns-in-Err-clause-missing
returns-in-Err-clause-missing g c =
    let r = c.statistics-ended.result in
    if_each (g.R.Reader.files c.args.reader.now) _ _ (λ files found is. missing_in (get files c.args.name.now) _ _ r.0 r.1 _ (inr refl) found is) c.statistics-ended.ensures.counts

pub returns-in-Err-clause-absent : goal.returns-in-Err-clause-absent
returns-in-Err-clause-absent g c =
    let r = c.statistics-ended.result in
    if_each (g.R.Reader.files c.args.reader.now) _ _ (λ files found none. absent_in (get files c.args.name.now) _ _ r.0 r.1 _ (inr refl) found none) c.statistics-ended.ensures.counts
