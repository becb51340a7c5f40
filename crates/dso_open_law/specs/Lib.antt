pub mod TouchedThreads
pub mod OthersMayAct
pub mod OtherThreadsStay
pub mod TouchesLittle
pub mod FewTouched
pub mod PrintCloses
