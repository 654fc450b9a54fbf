use Rattle.std.proofs.Common.{◌≡◌, ◌<◌, ◌≤◌, length, Bor, List, ℕ, ◌∙◌, arith}
use Rattle.std.proofs.lemmas.List.{length-map}
use Rattle.bigram_db.proofs.PathCounting.{counts_more, counts_below, counts_all, texts, text_at}
use Rattle.bigram_db.proofs.table.PairTable.for_paths.Goals as goal

same_length : (paths : List (Bor (List ℕ))) → length (texts paths) ≡ length paths
same_length paths = length-map paths (λ (p : Bor (List ℕ)). p.now)

pub add-requires : goal.add-requires
add-requires c = λ p. counts_below c.loop-path.counts c.loop-path.before.now (texts c.args.paths.now) c.loop-path.path-index p c.loop-path.invariant c.requires

pub loop-path-preserved : goal.loop-path-preserved
loop-path-preserved c =
    let i : ℕ = c.loop-path.path-index in
    let within : i < length (texts c.args.paths.now) = omega (arith, same_length c.args.paths.now, c.loop-path-test.true) in
    counts_more c.loop-path.counts c.add.new.self c.loop-path.before.now (texts c.args.paths.now) i _ within (text_at c.args.paths.now i _ c.loop-path-test.true) c.loop-path.invariant c.add.ensures

pub returns : goal.returns
returns c =
    let i : ℕ = c.loop-path.path-index in
    let end : length (texts c.args.paths.now) ≤ i = omega (arith, same_length c.args.paths.now, c.loop-path-test.false) in
    c.choose_table.ensures ∙ counts_all c.loop-path.counts c.loop-path.before.now (texts c.args.paths.now) i c.loop-path.invariant end
