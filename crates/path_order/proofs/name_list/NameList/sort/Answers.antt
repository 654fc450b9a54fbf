use Rattle.std.proofs.Common.{◌≡◌, ℕ, List, ◌≤◌, length, sym, ◌∙◌, ap, subst, arith}
use Rattle.std.proofs.lemmas.List.Filters.{All-dedup}
use Rattle.std.proofs.lemmas.List.Sorted.{All-permutation, IsPermutation-map, length_permutation}
use Rattle.std.specs.List.{All, dedup}
use Rattle.std.specs.List.Sorted.{IsSortedByKey}
use Rattle.std.specs.Str.{bytes_eq}
use Rattle.path_order.specs.declared.name_list.Span.{Span}
use Rattle.path_order.specs.NameList.{Listed, SortsTo, entry_cmp}
use Rattle.path_order.specs.Spans.{text_at, entry_at, entries_in, IsWithin}
use Rattle.path_order.proofs.SortLemmas.{same_name, kept_of, all_kept_fewer, sorts_to, ascends_by}
use Rattle.path_order.proofs.SpanLemmas.{map-dedup}
use Rattle.path_order.proofs.name_list.NameList.sort.Goals as goal

-- the spans that are kept are those of the names that are kept
view_is : (bytes lent : List ℕ) (sorted kept : List Span) → lent ≡ bytes → kept ≡ dedup (λ next first. bytes_eq (text_at lent next) (text_at lent first)) sorted → entries_in bytes kept ≡ kept_of (entries_in bytes sorted)
view_is bytes lent sorted kept is are =
    ap (entries_in bytes) (are ∙ ap (λ (b : List ℕ). dedup (λ next first. bytes_eq (text_at b next) (text_at b first)) sorted) is) ∙ map-dedup (entry_at bytes) same_name sorted

pub invariant_of-self-2 : goal.invariant_of-self-2
invariant_of-self-2 c =
    subst (λ (l : List Span). All (IsWithin c.self.inside.bytes.items) l) (sym c.drop_repeats.ensures)
    (All-dedup _ (IsWithin c.self.inside.bytes.items) c.sort_spans.new.spans.items (All-permutation (IsWithin c.self.inside.bytes.items) c.self.inside.spans.items c.sort_spans.new.spans.items c.in_ok-sort_spans.ensures.same c.self.invariant))

pub returns-clause-ok : goal.returns-clause-ok
returns-clause-ok c =
    let bytes = c.self.inside.bytes.items in
    let view = view_is bytes c.deref-2.result.now c.sort_spans.new.spans.items c.drop_repeats.new.spans.items c.deref-2.ensures.value c.drop_repeats.ensures in
    let up = subst (λ (b : List ℕ). IsSortedByKey (entry_at b) entry_cmp c.sort_spans.new.spans.items) c.deref.ensures.value c.in_ok-sort_spans.ensures.sorted in
    let moved = IsPermutation-map (entry_at bytes) c.self.inside.spans.items c.sort_spans.new.spans.items c.in_ok-sort_spans.ensures.same in
    subst (SortsTo c.args.self.now) (sym view)
    (subst (λ (l : Listed). SortsTo l (kept_of (entries_in bytes c.sort_spans.new.spans.items))) c.self.view_is (sorts_to (entries_in bytes c.self.inside.spans.items) (entries_in bytes c.sort_spans.new.spans.items) moved (ascends_by (entry_at bytes) c.sort_spans.new.spans.items up)))

pub returns-clause-fewer : goal.returns-clause-fewer
returns-clause-fewer c =
    let bytes = c.self.inside.bytes.items in
    let view = view_is bytes c.deref-2.result.now c.sort_spans.new.spans.items c.drop_repeats.new.spans.items c.deref-2.ensures.value c.drop_repeats.ensures in
    let moved = IsPermutation-map (entry_at bytes) c.self.inside.spans.items c.sort_spans.new.spans.items c.in_ok-sort_spans.ensures.same in
    subst (λ (l : Listed). length l ≤ length c.args.self.now) (sym view)
    (subst (λ (l : Listed). length (kept_of (entries_in bytes c.sort_spans.new.spans.items)) ≤ length l) c.self.view_is (omega (arith, all_kept_fewer (entries_in bytes c.sort_spans.new.spans.items), length_permutation _ _ moved)))
