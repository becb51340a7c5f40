pub mod LegalRun
