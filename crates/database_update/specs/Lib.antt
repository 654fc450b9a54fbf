pub mod Updates
pub mod Scans
pub mod SettingsFiles
pub mod Settings
pub mod OldDatabase
pub mod Holding
pub mod Faults
