pub mod RecordFits
