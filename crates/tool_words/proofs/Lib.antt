mod AskedLemmas
mod CommandLemmas
mod MatchLemmas
mod NumberLemmas
mod SettingsLemmas
mod WordLemmas
