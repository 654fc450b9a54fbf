-- Names that fit a path.
use Rattle.std.proofs.Common.{◌≡◌, ℕ, zero, suc, ◌<◌, Bool, true, false, cond, not, ◌&&◌, List, [], ◌∷◌, length, get_or, refl, sym, subst, arith, IsTrue, nat_cmp, Less, Equal, Greater}
use Rattle.std.specs.Cmp.Lexicographic.{slice_cmp}
use Rattle.std.specs.FinMap.{put}
use Rattle.std.specs.FinMap.Entries.{where_key, by_order}
use Rattle.std.specs.Ordering.{eq_by_cmp}
use Rattle.path_order.specs.declared.kind.Kind.{Kind}
use Rattle.path_order.specs.NameList.{Listed}
use Rattle.loc_outside.specs.declared.memory.keyed.Keyed.{Keyed}
use Rattle.loc_outside.specs.Edits.{fits}
use Rattle.loc_outside.specs.Keyed.{pairs_by, all_fit, AreNames}
use Rattle.loc_outside.proofs.KeyedMaps.{put_rises, without_rises, copied_rises}

both : (a b : Bool) → IsTrue a → IsTrue b → IsTrue (a && b)
both true b p q = q
both false b p q = p

left : (a b : Bool) → IsTrue (a && b) → IsTrue a
left true b p = refl
left false b p = p

right : (a b : Bool) → IsTrue (a && b) → IsTrue b
right true b p = p
right false b p = cc

fit_put : (name : List ℕ) (kind : Kind) (names : Listed) → IsTrue (fits name) → IsTrue (all_fit names) → IsTrue (all_fit (put (slice_cmp nat_cmp) name kind names))
fit_put name kind [] here all = both (fits name) true here refl
fit_put name kind (e ∷ es) here all =
    elim (slice_cmp nat_cmp name e.0) as (λ o. IsTrue (all_fit (by_order o ((name, kind) ∷ e ∷ es) ((e.0, kind) ∷ es) (e ∷ put (slice_cmp nat_cmp) name kind es)))) [
      | Less ↦ both (fits name) _ here all
      | Equal ↦ all
      | Greater ↦ both (fits e.0) _ (left (fits e.0) _ all) (fit_put name kind es here (right (fits e.0) _ all))
    ]

fit_where : (p : List ℕ → Bool) (names : Listed) → IsTrue (all_fit names) → IsTrue (all_fit (where_key (slice_cmp nat_cmp) p names))
fit_where p [] all = all
fit_where p (e ∷ es) all = by (p e.0) (fit_where p es (right (fits e.0) _ all))
  where
    by : (b : Bool) → IsTrue (all_fit (where_key (slice_cmp nat_cmp) p es)) → IsTrue (all_fit (cond b (e ∷ where_key (slice_cmp nat_cmp) p es) (where_key (slice_cmp nat_cmp) p es)))
    by true rest = both (fits e.0) _ (left (fits e.0) _ all) rest
    by false rest = rest

-- names stay names after an edit
pub are_names_put : (old new : List (Keyed Kind)) (name : List ℕ) (kind : Kind) → AreNames old → IsTrue (fits name) → pairs_by (λ k. k) new ≡ put (slice_cmp nat_cmp) name kind (pairs_by (λ k. k) old) → AreNames new
are_names_put old new name kind are here is = record {
  rise = put_rises (λ k. k) old new name kind are.rise is;
  fit = subst (λ (l : Listed). IsTrue (all_fit l)) (sym is) (fit_put name kind (pairs_by (λ k. k) old) here are.fit);
}

pub are_names_without : (old new : List (Keyed Kind)) (name : List ℕ) → AreNames old → pairs_by (λ k. k) new ≡ where_key (slice_cmp nat_cmp) (λ k. not (eq_by_cmp (slice_cmp nat_cmp) name k)) (pairs_by (λ k. k) old) → AreNames new
are_names_without old new name are is = record {
  rise = without_rises (λ k. k) old new name are.rise is;
  fit = subst (λ (l : Listed). IsTrue (all_fit l)) (sym is) (fit_where _ (pairs_by (λ k. k) old) are.fit);
}

-- each of them fits
pub fits_at : (items : List (Keyed Kind)) (i : ℕ) (item : Keyed Kind) → i < length items → item ≡ get_or items i item → IsTrue (all_fit (pairs_by (λ k. k) items)) → IsTrue (fits item.key.items)
fits_at [] i item lt is all = absurd (omega arith)
fits_at (x ∷ items) zero item lt is all = subst (λ (y : Keyed Kind). IsTrue (fits y.key.items)) (sym is) (left (fits x.key.items) _ all)
fits_at (x ∷ items) (suc i) item lt is all = fits_at items i item (omega arith) is (right (fits x.key.items) _ all)

-- the same names
pub are_names_same : (old new : List (Keyed Kind)) → pairs_by (λ k. k) new ≡ pairs_by (λ k. k) old → AreNames old → AreNames new
are_names_same old new same are = record {
  rise = copied_rises (λ k. k) new old same are.rise;
  fit = subst (λ (l : Listed). IsTrue (all_fit l)) (sym same) are.fit;
}
