-- What holds of what may be told.
use Rattle.std.proofs.Common.{◌≡◌, ℕ, List, Option, Some, None, Ok, IfSome, sym, subst}
use Rattle.std.specs.Prelude.{IsSome}
use Rattle.std.specs.FinMap as map
use Rattle.loc_outside.specs.Files.{Files}
use Rattle.loc_outside.specs.Outside.{OpensAs}
use Rattle.loc_outside.specs.declared.traits.bytes.Opened.{Opened}
use Rattle.loc_outside.specs.declared.traits.bytes.Opened.TheVariants.{Found, Missing}

pub if_some : {T : Type 0} (o : Option T) (P : T → Type 0) → ((x : T) → P x) → IfSome o P
if_some None P all = tt
if_some (Some x) P all = all x

pub if_each : {T : Type 0} (o : Option T) (P Q : T → Type 0) → ((x : T) → P x → Q x) → IfSome o P → IfSome o Q
if_each None P Q each h = tt
if_each (Some x) P Q each h = each x h

-- ---- of a file that was opened by its name

pub if_found : (files : Option Files) (name : List ℕ) (left : Option (List ℕ)) (P : Option (List ℕ) → Type 0) (o : Opened) → o ≡ Found → OpensAs files name (Ok o) left → (IsSome left → P left) → IfSome files (λ files. P (map.get files name))
if_found None name left P o found opened holds = tt
if_found (Some files) name left P o found opened holds =
    let was : OpensAs (Some files) name (Ok Found) left = subst (λ (x : Opened). OpensAs (Some files) name (Ok x) left) found opened in
    subst P was.1 (holds was.0)

pub if_missing : (files : Option Files) (name : List ℕ) (left : Option (List ℕ)) (P : Option (List ℕ) → Type 0) (o : Opened) → o ≡ Missing → OpensAs files name (Ok o) left → P None → IfSome files (λ files. P (map.get files name))
if_missing None name left P o missing opened holds = tt
if_missing (Some files) name left P o missing opened holds =
    let was : OpensAs (Some files) name (Ok Missing) left = subst (λ (x : Opened). OpensAs (Some files) name (Ok x) left) missing opened in
    subst P (sym was.0) holds
