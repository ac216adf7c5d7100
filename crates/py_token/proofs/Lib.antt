pub mod FaultLaws
pub mod FileLaws
pub mod OneAnswer
pub mod ScanLaws
pub mod StopLaws
pub mod TextLaws
