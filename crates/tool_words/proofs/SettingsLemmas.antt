-- The settings of `updatedb`, once each value was read and no rule is broken.
use Rattle.std.proofs.Common.{◌≡◌, ℕ, ◌<◌, Bool, true, false, List, [], length, Option, Some, Bor, option_map, refl, ap, ◌∙◌, sym, arith}
use Rattle.std.specs.Prelude.{◌||◌, ◌==◌, codes, not, unwrap_or}
use Rattle.std.specs.Option.{ForSome}
use Rattle.std.proofs.lemmas.Bool.Decides.{nat_tests}
use Rattle.clap.specs.Words.{Row, Text}
use Rattle.tool_words.specs.Lists.{FitsList, is_long}
use Rattle.tool_words.specs.Matches.{value_of}
use Rattle.tool_words.specs.Values.{is_normal_path, read_by, version_word}
use Rattle.updatedb_conf.specs.Value.{flag_word, margin_word}
use Rattle.tool_words.specs.Updatedb.{breaks_rule, has_long_addition, has_long_list, has_slash_in_name, list_of, output_of, root_of, settings_of, settings_with}

pub settings_of-read : (m : List Row) (visibility prune_bind_mounts : Option Bool) (version margin : Option ℕ)
    → Some visibility ≡ read_by flag_word (value_of (codes "require-visibility") m)
    → Some prune_bind_mounts ≡ read_by flag_word (value_of (codes "prune-bind-mounts") m)
    → Some version ≡ read_by version_word (value_of (codes "db-version") m)
    → Some margin ≡ read_by margin_word (value_of (codes "recent-margin") m)
    → breaks_rule m ≡ false → settings_of m ≡ Some (settings_with m visibility prune_bind_mounts version margin)
unfolding settings_of
settings_of-read m visibility prune_bind_mounts version margin a b d e kept = rw (← a) (rw (← b) (rw (← d) (rw (← e) (rw kept refl))))

neither : (a b : Bool) → (a || b) ≡ false → (a ≡ false) × (b ≡ false)
neither true b none = absurd (cc)
neither false b none = (refl, none)

not_false : (b : Bool) → not b ≡ false → b ≡ true
not_false true is = refl
not_false false is = absurd (cc)

has_byte : (word : Text) → (length word == 0) ≡ false → 0 < length word
has_byte word filled = grind (arith, nat_tests)

fits : (list : Text) → is_long list ≡ false → FitsList list
fits list short = grind (arith, nat_tests)

-- a list that is given fits where the one that stands for it does
pub fits_given : (given : Option (Bor Text)) (value : Option Text) → option_map (λ t. t.now) given ≡ value
    → FitsList (unwrap_or value []) → ForSome given (λ list. FitsList list.now)
fits_given given value seen fit list is =
    let same : value ≡ Some list.now = sym seen ∙ ap (option_map (λ (t : Bor Text). t.now)) is in rw same at fit

-- what holds where no rule is broken
pub record Kept (m : List Row) : Type 0 where
  pub root : is_normal_path (root_of m) ≡ true
  pub output : 0 < length (output_of m)
  pub prunefs : FitsList (list_of (codes "prunefs") m)
  pub prunenames : FitsList (list_of (codes "prunenames") m)
  pub prunepaths : FitsList (list_of (codes "prunepaths") m)
  pub add_prunefs : FitsList (list_of (codes "add-prunefs") m)
  pub add_prunenames : FitsList (list_of (codes "add-prunenames") m)
  pub add_prunepaths : FitsList (list_of (codes "add-prunepaths") m)

pub kept : (m : List Row) → breaks_rule m ≡ false → Kept m
kept m none =
    let a = neither (not (is_normal_path (root_of m))) (length (output_of m) == 0 || (has_long_list m || (has_long_addition m || has_slash_in_name m))) none in
    let b = neither (length (output_of m) == 0) (has_long_list m || (has_long_addition m || has_slash_in_name m)) a.1 in
    let d = neither (has_long_list m) (has_long_addition m || has_slash_in_name m) b.1 in
    let e = neither (has_long_addition m) (has_slash_in_name m) d.1 in
    let f = neither (is_long (list_of (codes "prunefs") m)) (is_long (list_of (codes "prunenames") m) || is_long (list_of (codes "prunepaths") m)) d.0 in
    let g = neither (is_long (list_of (codes "prunenames") m)) (is_long (list_of (codes "prunepaths") m)) f.1 in
    let h = neither (is_long (list_of (codes "add-prunefs") m)) (is_long (list_of (codes "add-prunenames") m) || is_long (list_of (codes "add-prunepaths") m)) e.0 in
    let i = neither (is_long (list_of (codes "add-prunenames") m)) (is_long (list_of (codes "add-prunepaths") m)) h.1 in
    record {
      root = not_false (is_normal_path (root_of m)) a.0;
      output = has_byte (output_of m) b.0;
      prunefs = fits (list_of (codes "prunefs") m) f.0;
      prunenames = fits (list_of (codes "prunenames") m) g.0;
      prunepaths = fits (list_of (codes "prunepaths") m) g.1;
      add_prunefs = fits (list_of (codes "add-prunefs") m) h.0;
      add_prunenames = fits (list_of (codes "add-prunenames") m) i.0;
      add_prunepaths = fits (list_of (codes "add-prunepaths") m) i.1;
    }
