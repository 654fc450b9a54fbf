-- The expressions of sets.
use Rattle.std.proofs.Common.{◌≡◌, ℕ, ◌<◌, ◌||◌, ◌==◌, Bool, true, false, ap, ◌∙◌}
use Rattle.byte_class.specs.declared.byte_set.ByteSet.{ByteSet}
use Rattle.byte_class.specs.ByteSet.{has, members, folded, in_set}
use Rattle.byte_class.proofs.Members.{members_agree, in_set_agree}
use Rattle.posix_regex.specs.Expression.{OneOf}
use Rattle.posix_regex.specs.Token.{literal, any_byte}

pub literal-set : (fold : Bool) (byte : ℕ) (empty one closed : ByteSet) → ((x : ℕ) → x < 256 → has empty x ≡ false) → ((x : ℕ) → x < 256 → has one x ≡ (has empty x || x == byte)) → ((x : ℕ) → x < 256 → has closed x ≡ in_set fold false (has one) x) → OneOf (members (has closed)) ≡ literal fold byte
unfolding literal in_set
literal-set fold byte empty one closed none added says =
    ap OneOf (members_agree (has closed) (folded fold (λ x. x == byte)) (λ x fits.
    says x fits ∙ in_set_agree fold false (has one) (λ x. x == byte) (λ y within. added y within ∙ ap (λ b. b || y == byte) (none y within)) x fits))

pub any_byte-set : (all : ByteSet) → ((x : ℕ) → x < 256 → has all x ≡ true) → OneOf (members (has all)) ≡ any_byte
unfolding any_byte
any_byte-set all says = ap OneOf (members_agree (has all) (λ byte. true) says)
