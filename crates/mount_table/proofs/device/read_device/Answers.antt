use Rattle.std.proofs.Common.{◌≡◌, ℕ, ◌+◌, ◌-◌, List, Option, Some, length, take, drop, position, refl, sym, ◌∙◌}
use Rattle.std.proofs.lemmas.List.{take_rest}
use Rattle.std.specs.Option.{option_zip}
use Rattle.mount_table.specs.Device.{is_colon, decimal_number, device_numbers}
use Rattle.mount_table.proofs.Positions.{position_none}
use Rattle.mount_table.proofs.DeviceLemmas.{device_numbers-none, device_numbers-cut}
use Rattle.mount_table.proofs.device.read_device.Goals as goal

-- the numbers by the parts that the code cuts off
parts : (field : List ℕ) (colon : ℕ) (place major minor : Option ℕ) → place ≡ position is_colon field → place ≡ Some colon → major ≡ decimal_number (take colon field) → minor ≡ decimal_number (take (length field - (colon + 1)) (drop (colon + 1) field)) → option_zip major minor ≡ device_numbers field
parts field colon place major minor is_place at is_major is_minor =
    (λ i. option_zip (is_major i) (is_minor i)) ∙ sym (device_numbers-cut field _ _ colon (sym is_place ∙ at) refl (take_rest field (colon + 1)))

pub returns-in_default : goal.returns-in_default
returns-in_default c = sym (device_numbers-none _ (position_none is_colon _ (sym c.colon_place.ensures ∙ c.in_default.is)))

pub returns-in_default-read_decimal : goal.returns-in_default-read_decimal
returns-in_default-read_decimal c =
    parts c.args.field.now c.in-Some.colon _ _ _ c.colon_place.ensures c.in-Some.is (sym c.in_default-read_decimal.is ∙ c.read_decimal.ensures) refl

pub returns-in_default-read_decimal-2 : goal.returns-in_default-read_decimal-2
returns-in_default-read_decimal-2 c =
    parts c.args.field.now c.in-Some.colon _ _ _ c.colon_place.ensures c.in-Some.is (sym c.in-Some-read_decimal.is ∙ c.read_decimal.ensures) (sym c.in_default-read_decimal-2.is ∙ c.read_decimal-2.ensures)

pub returns : goal.returns
returns c =
    parts c.args.field.now c.in-Some.colon _ _ _ c.colon_place.ensures c.in-Some.is (sym c.in-Some-read_decimal.is ∙ c.read_decimal.ensures) (sym c.in-Some-read_decimal-2.is ∙ c.read_decimal-2.ensures)
